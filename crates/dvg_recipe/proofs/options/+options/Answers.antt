use Rattle.std.specs.Prelude.{min, ◌*◌}
use Rattle.std.specs.List.{sum_by}
use Rattle.dvg_recipe.proofs.Common.{sym, ap, ◌∙◌, List}
use Rattle.dvg_recipe.specs.Recipes.{Piece, Part}
use Rattle.dvg_recipe.specs.Limits.{piece_options, options}
use Rattle.dvg_recipe.specs.declared.options.TheConstants.{MOST_COUNTED}
use Rattle.dvg_recipe.proofs.options.+options.Goals as goal

pub returns-in-Row : goal.returns-in-Row
returns-in-Row t c =
    c.row_options.ensures
    ∙ ap (λ (row : List Piece). min (c.args.turns * sum_by (λ (piece : Piece). piece_options piece.kind) row) MOST_COUNTED)
    c.deref.ensures.value
    ∙ ap (λ (part : Part). min (options c.args.turns part) MOST_COUNTED) (sym c.in-Row.is)
