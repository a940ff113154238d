use Rattle.dvg_labels.proofs.Common.{named_of}
use Rattle.dvg_labels.proofs.Naming.{keep_nearer}
use Rattle.dvg_labels.proofs.labels.nearer.Goals as goal

pub returns-then-nearest-distance : goal.returns-then-nearest-distance
returns-then-nearest-distance c =
    λ labels h. rw c.in-Some-best.is
    (keep_nearer labels (named_of c.args.label.now) c.args.at c.in-Some-best.nearest c.in-Some.distance c.in-Some.ensures.some.1
    c.if-nearest-distance.true (rw c.in-Some-best.is at h))
