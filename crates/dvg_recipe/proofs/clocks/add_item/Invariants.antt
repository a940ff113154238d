use Rattle.dvg_recipe.proofs.Common.{◌<◌, ℕ, None, get_or}
use Rattle.dvg_check.proofs.Common.{At}
use Rattle.dvg_clocks.specs.declared.clocks.ClockRange.{ClockRange}
use Rattle.dvg_clocks.specs.Kept.{clocks_in}
use Rattle.dvg_recipe.specs.Private.Clocks.{IsUnder, AreNoMore, most_at, scale_past, taken_past}
use Rattle.dvg_recipe.proofs.clocks.add_item.Given as goal

abbrev pub invariant-loop-scale : goal.invariant-loop-scale
invariant-loop-scale g l =
    ((s : ℕ) (n : ClockRange) → s < l.scale → IsUnder n (get_or l.here.at s None)
    → IsUnder (taken_past l.counting.timing.now.states (g.E.Entries.list l.counting.entries.now) (clocks_in l.counting.shapes.now) l.item
    (At s) n)
    (most_at l.next (scale_past l.counting.timing.now.states (g.E.Entries.list l.counting.entries.now) (clocks_in l.counting.shapes.now)
    l.item (At s))))
    × AreNoMore l.initial.next l.next
