use Rattle.dvg_recipe.proofs.Common.{◌+◌, arith}
use Rattle.dvg_recipe.proofs.PastParts.{past_row_next, piece_to}
use Rattle.dvg_recipe.proofs.belonging.past_row.Goals as goal

pub loop-piece-preserved : goal.loop-piece-preserved
loop-piece-preserved c =
    past_row_next c.args.row.now c.args.places.now c.loop-piece.piece-index (c.loop-piece.piece-index + 1) c.piece-item.result
    c.args.here.now.items c.loop-piece.here.items c.past_piece.new.here.items (omega arith) c.loop-piece-test.true
    c.loop-piece.invariant
    (piece_to c.piece-item.result _ c.args.places.now c.loop-piece.here.items c.past_piece.new.here.items c.piece-item.is
    c.in_ok-past_piece.ensures)
