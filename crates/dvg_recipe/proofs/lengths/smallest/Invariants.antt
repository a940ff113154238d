use Rattle.dvg_recipe.proofs.Common.{take, Contains}
use Rattle.dvg_recipe.proofs.Longest.{AreNoSmaller}
use Rattle.dvg_recipe.proofs.lengths.smallest.Given as goal

abbrev pub invariant-loop-area : goal.invariant-loop-area
invariant-loop-area l = Contains l.areas l.least × AreNoSmaller l.least (take l.area-index l.areas)
