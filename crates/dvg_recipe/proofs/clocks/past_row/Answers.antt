use Rattle.dvg_recipe.proofs.Common.{◌+◌, arith, subst, sym, Contains-get_or}
use Rattle.dvg_clocks.specs.Kept.{clocks_in}
use Rattle.dvg_recipe.specs.Limits.{PieceFits}
use Rattle.dvg_recipe.specs.Recipes.{Piece, Takes}
use Rattle.dvg_recipe.specs.Private.Clocks.{TakeOn}
use Rattle.dvg_recipe.proofs.Spending.{row_next}
use Rattle.dvg_recipe.proofs.clocks.past_row.Goals as goal

pub add_piece-requires : goal.add_piece-requires
add_piece-requires g c = record {
  fits = subst (λ (p : Piece). PieceFits p.kind) (sym c.piece-item.is)
      (c.requires.fits.each _ (Contains-get_or c.args.row.now c.loop-piece.piece-index c.piece-item.result c.loop-piece-test.true));
}

pub loop-piece-preserved : goal.loop-piece-preserved
loop-piece-preserved g c =
    row_next c.args.counting.now.timing.now.states (g.E.Entries.list c.args.counting.now.entries.now)
    (clocks_in c.args.counting.now.shapes.now) c.args.row.now c.loop-piece.piece-index (c.loop-piece.piece-index + 1)
    c.piece-item.result c.args.here.now c.loop-piece.here c.add_piece.new.next (omega arith) c.loop-piece-test.true
    c.loop-piece.invariant
    (subst (λ (p : Piece). TakeOn c.args.counting.now.timing.now.states (g.E.Entries.list c.args.counting.now.entries.now)
    (clocks_in c.args.counting.now.shapes.now) (λ i. Takes p.kind i.format i.instr) c.loop-piece.here c.add_piece.new.next)
    c.piece-item.is c.in_ok-add_piece.ensures)
