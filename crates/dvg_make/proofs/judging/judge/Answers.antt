use Rattle.dvg_make.proofs.Common.{[], rules, arith, blocked_fault}
use Rattle.dvg_make.proofs.OwnCertificate.{made_refused, made_verdict}
use Rattle.dvg_make.proofs.Causes.{call_cause, stuck_cause}
use Rattle.dvg_make.proofs.judging.judge.Goals as goal

pub returns-in-Err-clause-verdict : goal.returns-in-Err-clause-verdict
returns-in-Err-clause-verdict c = search (rules, made_verdict)

pub returns-in-Err-clause-refused : goal.returns-in-Err-clause-refused
returns-in-Err-clause-refused c =
    rw (c.refusal_of.ensures, c.fault.ensures)
    (made_refused c.args.rom.now c.args.frame.now c.args.window c.args.budget c.in-Err.blocked.call (blocked_fault c.in-Err.blocked).why
    (rw c.from_ref.ensures.value at c.in-Err.ensures.err).refuse)

pub returns-in-Err-clause-told : goal.returns-in-Err-clause-told
returns-in-Err-clause-told c = grind (arith, call_cause, (stuck_cause c.args.rom.now []))
