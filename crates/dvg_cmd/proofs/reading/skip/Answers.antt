use Rattle.dvg_cmd.proofs.Common.{arith, take, common_steps, rules}
use Rattle.dvg_cmd.proofs.Pieces.{piece_skipped, last_skipped}
use Rattle.dvg_cmd.proofs.reading.skip.Goals as goal

pub skipping-preserved-then-len-room : goal.skipping-preserved-then-len-room
skipping-preserved-then-len-room g c =
    grind (arith, rules, common_steps, (piece_skipped c.args.most c.skipping.left c.min-room.result), piece_skipped)

pub skipping-preserved : goal.skipping-preserved
skipping-preserved g c =
    search (
      rules,
      last_skipped c.args.most c.skipping.left c.min-room.result _ _ _ (take c.in_ok-len.len c.fill.new.buf)
          c.skipping.invariant.skipped (grind (arith, common_steps)) (grind (arith, common_steps)) c.in_ok-len.ensures.bytes
          (grind (arith, common_steps)),
    )
