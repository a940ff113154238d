use Rattle.dvg_recipe.proofs.Common.{take}
use Rattle.dvg_clocks.specs.Kept.{clocks_in}
use Rattle.dvg_recipe.specs.Recipes.{SpellsJumps}
use Rattle.dvg_recipe.specs.Private.Clocks.{Spend}
use Rattle.dvg_recipe.proofs.clocks.past_jumps.Given as goal

abbrev pub invariant-loop-jump : goal.invariant-loop-jump
invariant-loop-jump g l =
    Spend l.counting.timing.now.states (g.E.Entries.list l.counting.entries.now) (clocks_in l.counting.shapes.now)
    (SpellsJumps (take l.jump-index l.jumps)) l.initial.here l.here
