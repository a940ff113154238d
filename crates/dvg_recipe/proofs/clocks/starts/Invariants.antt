use Rattle.dvg_recipe.proofs.Common.{take}
use Rattle.dvg_clocks.specs.Kept.{clocks_in}
use Rattle.dvg_recipe.specs.Private.Clocks.{StartWith}
use Rattle.dvg_recipe.proofs.clocks.starts.Given as goal

abbrev pub invariant-loop-area : goal.invariant-loop-area
invariant-loop-area g l =
    StartWith l.counting.timing.now.states (g.E.Entries.list l.counting.entries.now) (clocks_in l.counting.shapes.now)
    (take l.area-index l.lists) l.here
