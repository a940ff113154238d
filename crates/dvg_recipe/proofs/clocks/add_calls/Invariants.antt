use Rattle.dvg_recipe.proofs.Common.{◌≡◌, ℕ, take, Contains}
use Rattle.dvg_check.proofs.Common.{Jsrl}
use Rattle.dvg_clocks.specs.Kept.{clocks_in}
use Rattle.dvg_recipe.specs.Private.Clocks.{AreNoMore, TakeOn}
use Rattle.dvg_recipe.proofs.clocks.add_calls.Given as goal

abbrev pub invariant-loop-to : goal.invariant-loop-to
invariant-loop-to g l =
    ((to : ℕ) → Contains (take l.to-index l.targets) to
    → TakeOn l.counting.timing.now.states (g.E.Entries.list l.counting.entries.now) (clocks_in l.counting.shapes.now)
    (λ i. i.instr ≡ Jsrl to) l.here l.next)
    × AreNoMore l.initial.next l.next
