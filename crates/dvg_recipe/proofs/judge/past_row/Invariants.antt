use Rattle.dvg_recipe.proofs.Common.{take}
use Rattle.dvg_recipe.specs.Recipes.{AddsRow}
use Rattle.dvg_recipe.specs.Private.Judging.{Carries, IfFine}
use Rattle.dvg_recipe.proofs.judge.past_row.Given as goal

abbrev pub invariant-loop-piece : goal.invariant-loop-piece
invariant-loop-piece g l =
    IfFine l.fn.notes l.notes (Carries l.asked.window (g.E.Entries.list l.entries) l.asked.budget (AddsRow (take l.piece-index l.row))
    l.fn.here.items l.here.items)
