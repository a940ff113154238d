use Rattle.dvg_survey.proofs.Common.{arith, length, ap}
use Rattle.dvg_survey.proofs.Bearing.{one_down, no_further, no_more}
use Rattle.dvg_survey.proofs.Walking.{where_none}
use Rattle.dvg_survey.proofs.deepest.deepest_calls.Goals as goal

pub returns-in_default : goal.returns-in_default
returns-in_default g c =
    no_further c.args.rom.now c.args.cert.now.entries c.args.entry.now (length c.args.cert.now.entries) _ _ _ c.loop.invariant
    (omega (arith, c.loop-test.true, ap length c.entries-most.ensures.value))
    (rw c.requires.entries at (where_none c.first_bearing.result c.in_default.not-Some c.first_bearing.ensures.none))

pub loop-preserved : goal.loop-preserved
loop-preserved g c =
    one_down c.args.rom.now c.args.cert.now.entries c.args.entry.now (length c.args.cert.now.entries) _ _ _ c.loop.invariant
    c.args.cert.now.map c.in-Some.call c.push.new.self.items c.entries-most.ensures.certificate
    (rw c.requires.entries at c.in-Some.ensures.some) c.in_ok-push.ensures.items

pub returns : goal.returns
returns g c =
    let most = ap length c.entries-most.ensures.value in
    no_more c.args.rom.now c.args.cert.now.entries c.args.entry.now (length c.args.cert.now.entries) _ _ _ c.loop.invariant
    (omega (arith, c.loop-test.false, most)) (omega (arith, c.loop.auto.counter-end, most))
