use Rattle.dvg_recipe.proofs.Common.{take}
use Rattle.dvg_recipe.specs.Private.Indices.{IsPast, JumpLeads}
use Rattle.dvg_recipe.proofs.belonging.past_jump.Given as goal

abbrev pub invariant-loop-index : goal.invariant-loop-index
invariant-loop-index l = IsPast (JumpLeads l.jump.area.first l.places) (take l.index-index l.here) l.next.items
