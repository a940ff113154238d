use Rattle.std.specs.Prelude.{true}
use Rattle.dvg_recipe.proofs.Common.{◌≡◌, ◌<◌, ℕ, get_or, false}
use Rattle.dvg_clocks.specs.Kept.{clocks_in}
use Rattle.dvg_recipe.specs.Private.Clocks.{AreNoMore, IsLabsAt, TakeOn}
use Rattle.dvg_recipe.proofs.clocks.add_places.Given as goal

abbrev pub invariant-loop-scale : goal.invariant-loop-scale
invariant-loop-scale g l =
    ((s : ℕ) → s < l.scale → get_or l.range.scales s false ≡ true
    → TakeOn l.counting.timing.now.states (g.E.Entries.list l.counting.entries.now) (clocks_in l.counting.shapes.now)
    (λ i. IsLabsAt s i.instr) l.here l.next)
    × AreNoMore l.initial.next l.next
