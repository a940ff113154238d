use Rattle.dvg_labels.proofs.Naming.{one_more}
use Rattle.dvg_labels.proofs.labels.nearest_in.Goals as goal

pub loop-label-preserved : goal.loop-label-preserved
loop-label-preserved c =
    rw (one_more c.args.labels.now c.loop-label.label-index c.label-item.result c.label-item.is c.loop-label-test.true)
    (c.nearer-best.ensures _ c.loop-label.invariant)
