use Rattle.std.specs.List.{sum_by}
use Rattle.dvg_recipe.proofs.Common.{◌≡◌, take}
use Rattle.std.specs.Prelude.{min}
use Rattle.dvg_recipe.specs.Recipes.{Piece}
use Rattle.dvg_recipe.specs.Limits.{piece_options}
use Rattle.dvg_recipe.specs.declared.options.TheConstants.{MOST_COUNTED}
use Rattle.dvg_recipe.proofs.options.sum_options.Given as goal

abbrev pub invariant-loop-piece : goal.invariant-loop-piece
invariant-loop-piece l = l.options ≡ min (sum_by (λ (piece : Piece). piece_options piece.kind) (take l.piece-index l.row)) MOST_COUNTED
