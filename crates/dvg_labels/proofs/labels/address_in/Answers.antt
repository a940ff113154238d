use Rattle.dvg_labels.proofs.Common.{◌+◌}
use Rattle.std.proofs.lemmas.Result.{err_from_is_err_and}
use Rattle.dvg_labels.proofs.Naming.{one_more, two_of_all}
use Rattle.dvg_labels.proofs.labels.address_in.Goals as goal

pub returns-in_err-found : goal.returns-in_err-found
returns-in_err-found c =
    let p = err_from_is_err_and c.from_residual.result c.from_residual.ensures.1 in
    let more = one_more c.args.labels.now c.loop-label.label-index c.label-item.result c.label-item.is c.loop-label-test.true in
    rw (p.1, p.2, c.in_err-found.ensures.err.0)
    (two_of_all c.args.labels.now (c.loop-label.label-index + 1) c.args.name.now
    (rw more (c.in_err-found.ensures.err.1 _ c.loop-label.invariant)))

pub loop-label-preserved : goal.loop-label-preserved
loop-label-preserved c =
    rw (one_more c.args.labels.now c.loop-label.label-index c.label-item.result c.label-item.is c.loop-label-test.true)
    (c.in_ok-found.ensures.ok _ c.loop-label.invariant)
