use Rattle.dvg_recipe.proofs.Common.{◌↔◌, ℕ, drop}
use Rattle.dvg_recipe.specs.Limits.{RowNumbered}
use Rattle.dvg_recipe.proofs.limits.row_past.Given as goal

abbrev pub invariant-loop-piece : goal.invariant-loop-piece
invariant-loop-piece l = (m : ℕ) → RowNumbered l.row l.first m ↔ RowNumbered (drop l.piece-index l.row) l.next m
