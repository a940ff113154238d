use Rattle.dvg_recipe.proofs.Common.{◌+◌, refl, subst, sym, arith}
use Rattle.dvg_recipe.specs.Recipes.{Piece}
use Rattle.dvg_recipe.specs.Limits.{PieceFits}
use Rattle.dvg_recipe.proofs.Fitting.{each_next, each_of_all, not_each, never, untrue}
use Rattle.dvg_recipe.proofs.limits.row_fits.Goals as goal

pub returns-then-not-piece_fits : goal.returns-then-not-piece_fits
returns-then-not-piece_fits c =
    never _ (λ h. not_each (λ (p : Piece). PieceFits p.kind) c.args.row.now c.loop-piece.piece-index c.piece-item.result
    c.loop-piece-test.true
    (λ fits. untrue c.piece_fits.result c.if-not-piece_fits.true
    (c.piece_fits.ensures.1 (subst (λ (p : Piece). PieceFits p.kind) (sym c.piece-item.is) fits))) h.each)

pub loop-piece-preserved : goal.loop-piece-preserved
loop-piece-preserved c =
    record {
      each = each_next (λ (p : Piece). PieceFits p.kind) c.args.row.now c.loop-piece.piece-index (c.loop-piece.piece-index + 1)
          c.piece-item.result (omega arith) c.loop-piece-test.true c.loop-piece.invariant.each
          (subst (λ (p : Piece). PieceFits p.kind) c.piece-item.is (c.piece_fits.ensures.0 c.if-not-piece_fits.false));
    }

pub returns : goal.returns
returns c = (
  λ yes. record {
    each =
        each_of_all (λ (p : Piece). PieceFits p.kind) c.args.row.now c.loop-piece.piece-index c.loop-piece-test.false
        c.loop-piece.invariant.each;
  },
  λ h. refl,
)
