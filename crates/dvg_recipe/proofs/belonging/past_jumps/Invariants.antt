use Rattle.dvg_recipe.proofs.Common.{take}
use Rattle.dvg_recipe.specs.Private.Indices.{IsPast, JumpsLead}
use Rattle.dvg_recipe.proofs.belonging.past_jumps.Given as goal

abbrev pub invariant-loop-jump : goal.invariant-loop-jump
invariant-loop-jump l = IsPast (JumpsLead (take l.jump-index l.jumps) l.places) l.initial.here.items l.here.items
