use Rattle.dvg_recipe.proofs.Common.{take}
use Rattle.dvg_recipe.specs.Recipes.{SpellsJumps}
use Rattle.dvg_recipe.specs.Private.Judging.{Carries, IfFine}
use Rattle.dvg_recipe.proofs.judge.past_jumps.Given as goal

abbrev pub invariant-loop-jump : goal.invariant-loop-jump
invariant-loop-jump g l =
    IfFine l.fn.notes l.notes (Carries l.asked.window (g.E.Entries.list l.entries) l.asked.budget
    (SpellsJumps (take l.jump-index l.jumps)) l.fn.here.items l.here.items)
