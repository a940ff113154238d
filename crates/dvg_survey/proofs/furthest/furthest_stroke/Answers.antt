use Rattle.dvg_survey.proofs.Common.{arith, length, ap}
use Rattle.dvg_survey.proofs.Reaching.{one_down, ends_here, no_further, no_more}
use Rattle.dvg_survey.proofs.Walking.{where_none}
use Rattle.dvg_survey.proofs.furthest.furthest_stroke.Goals as goal

pub returns-in_default : goal.returns-in_default
returns-in_default g c =
    no_further c.args.rom.now c.args.cert.now.entries c.args.edge c.args.entry.now (length c.args.cert.now.entries) _ _ c.loop.invariant
    (omega (arith, c.loop-test.true, ap length c.entries-most.ensures.value))
    (rw c.requires.entries at (where_none c.first_reaching.result c.in_default.not-Some c.first_reaching.ensures.none))

pub returns-in-None : goal.returns-in-None
returns-in-None g c =
    ends_here c.args.rom.now c.args.cert.now.entries c.args.edge c.args.entry.now (length c.args.cert.now.entries) _ _ c.loop.invariant
    (omega (arith, c.loop-test.true, ap length c.entries-most.ensures.value)) c.in-Some.seen
    (rw c.requires.entries at c.in-Some.ensures.some) c.in-None.is

pub loop-preserved : goal.loop-preserved
loop-preserved g c =
    one_down c.args.rom.now c.args.cert.now.entries c.args.edge c.args.entry.now (length c.args.cert.now.entries) _ _ c.loop.invariant
    c.args.cert.now.map c.in-Some.seen c.in-Some-callee.called c.entries-most.ensures.certificate
    (rw c.requires.entries at c.in-Some.ensures.some) c.in-Some-callee.is

pub returns : goal.returns
returns g c =
    let most = ap length c.entries-most.ensures.value in
    no_more c.args.rom.now c.args.cert.now.entries c.args.edge c.args.entry.now (length c.args.cert.now.entries) _ _ c.loop.invariant
    (omega (arith, c.loop-test.false, most)) (omega (arith, c.loop.auto.counter-end, most))
