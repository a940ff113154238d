use Rattle.dvg_recipe.proofs.Common.{take}
use Rattle.dvg_clocks.specs.Kept.{clocks_in}
use Rattle.dvg_recipe.specs.Recipes.{AddsRow}
use Rattle.dvg_recipe.specs.Private.Clocks.{Spend}
use Rattle.dvg_recipe.proofs.clocks.past_row.Given as goal

abbrev pub invariant-loop-piece : goal.invariant-loop-piece
invariant-loop-piece g l =
    Spend l.counting.timing.now.states (g.E.Entries.list l.counting.entries.now) (clocks_in l.counting.shapes.now)
    (AddsRow (take l.piece-index l.row)) l.initial.here l.here
