use Rattle.dvg_recipe.proofs.Common.{take}
use Rattle.dvg_recipe.specs.Limits.{RowFits}
use Rattle.dvg_recipe.proofs.limits.row_fits.Given as goal

abbrev pub invariant-loop-piece : goal.invariant-loop-piece
invariant-loop-piece l = RowFits (take l.piece-index l.row)
