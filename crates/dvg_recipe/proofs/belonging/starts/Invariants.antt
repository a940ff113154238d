use Rattle.dvg_recipe.proofs.Common.{take}
use Rattle.dvg_recipe.specs.Private.Indices.{SomeStarts, AreThose}
use Rattle.dvg_recipe.proofs.belonging.starts.Given as goal

abbrev pub invariant-loop-area : goal.invariant-loop-area
invariant-loop-area l = AreThose (SomeStarts (take l.area-index l.lists) l.places) l.here.items
