use Rattle.dvg_recipe.proofs.Common.{◌+◌, arith}
use Rattle.dvg_recipe.proofs.Fitting.{jumps_left}
use Rattle.dvg_recipe.proofs.limits.jumps_past.Goals as goal

pub loop-jump-preserved : goal.loop-jump-preserved
loop-jump-preserved c m =
    let left = jumps_left c.args.jumps.now c.loop-jump.jump-index (c.loop-jump.jump-index + 1) c.jump-item.result c.jump-item.is
    (omega arith) c.loop-jump-test.true c.loop-jump.word c.loop-jump.next (c.loop-jump.next + 1) c.in_ok-next.next
    (c.jump-item.result.area.last + 1) m
    (c.jump_fits.ensures.0 c.if-not-jump_fits.false) (omega arith) c.in_ok-next.ensures.some (omega arith) in
    (λ h. left.0 ((c.loop-jump.invariant m).0 h), λ h. (c.loop-jump.invariant m).1 (left.1 h))
