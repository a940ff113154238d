use Rattle.dvg_recipe.proofs.Common.{subst, sym, Contains-get_or}
use Rattle.dvg_recipe.specs.Limits.{PieceFits}
use Rattle.dvg_recipe.specs.Recipes.{Piece}
use Rattle.dvg_recipe.proofs.roots.Roots.past_row.Goals as goal

pub past_piece-requires : goal.past_piece-requires
past_piece-requires c =
    record {
      fits = subst (λ (p : Piece). PieceFits p.kind) (sym c.piece-item.is)
          (c.requires.fits.each _ (Contains-get_or c.args.row.now c.loop-piece.piece-index c.piece-item.result c.loop-piece-test.true));
    }
