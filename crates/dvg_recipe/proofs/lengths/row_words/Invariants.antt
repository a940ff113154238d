use Rattle.std.specs.List.{sum_by}
use Rattle.dvg_recipe.proofs.Common.{◌≡◌, take}
use Rattle.std.specs.Prelude.{min}
use Rattle.dvg_recipe.specs.Recipes.{Piece}
use Rattle.dvg_recipe.specs.Lengths.{piece_words}
use Rattle.dvg_recipe.specs.declared.lengths.TheConstants.{MOST_COUNTED}
use Rattle.dvg_recipe.proofs.lengths.row_words.Given as goal

abbrev pub invariant-loop-piece : goal.invariant-loop-piece
invariant-loop-piece l = l.words ≡ min (sum_by (λ (piece : Piece). piece_words piece.kind) (take l.piece-index l.row)) MOST_COUNTED
