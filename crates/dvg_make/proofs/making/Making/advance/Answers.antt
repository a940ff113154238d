use Rattle.dvg_make.proofs.Common.{refl, sym, subst, arith, ◌∙◌, IsFinished, IsStopped}
use Rattle.dvg_make.proofs.Onward.{waits, stops_absent, stops_said, onward, ended}
use Rattle.dvg_make.proofs.Turns.{if_err_same}
use Rattle.dvg_make.proofs.Joining.{joined_one}
use Rattle.dvg_make.proofs.making.Making.advance.Goals as goal

pub returns-in-Err-clause-ok : goal.returns-in-Err-clause-ok
returns-in-Err-clause-ok c = grind (arith, waits)

pub returns-in-Some-clause-ok : goal.returns-in-Some-clause-ok
returns-in-Some-clause-ok c =
    let f = joined_one c.args.rom.now c.args.self.now.done c.args.self.now.tails c.requires.right.done c.requires.right.tails
    c.loop-format.partial c.loop-format.invariant.partial c.in-Some.entry c.in-Some.ensures in
    record { addr = f.addr ∙ c.loop-format.invariant.addr; key = f.key ∙ c.loop-format.invariant.key; entry = f.entry; made = f.made }

pub returns-in_err-step-clause-err : goal.returns-in_err-step-clause-err
returns-in_err-step-clause-err c =
    let said = stops_said c.args.rom.now c.args.self.now.done c.args.from c.loop-format.partial c.loop-format.invariant c.in-Holds.format
    c.in-Holds.instr (sym c.in-Holds.ensures.value) c.in-Ok.callee c.in-Ok.ensures.ok c.in_err-step.field-0.0
    (rw c.machine-machine.ensures at c.in_err-step.ensures.err).0 (rw c.machine-machine.ensures at c.in_err-step.ensures.err).1 in
    grind (arith, (if_err_same c.from_residual.result c.in_err-step.field-0.0), said)

pub loop-format-preserved : goal.loop-format-preserved
loop-format-preserved c = grind (arith, onward)

pub returns-in-Last-clause-ok : goal.returns-in-Last-clause-ok
returns-in-Last-clause-ok c =
    subst (IsFinished c.args.rom.now c.args.self.now.done c.args.from) (sym c.entry-entry.ensures)
    (ended c.args.rom.now c.args.self.now.done c.args.from c.loop-format.partial c.loop-format.invariant c.in-Holds.format
    c.in-Holds.instr (sym c.in-Holds.ensures.value) c.in-Ok.callee c.in-Ok.ensures.ok c.in_ok-step.lit
    (rw c.machine-machine.ensures at c.in_ok-step.ensures.ok) c.in_ok-step.step c.in-Last.known c.in-Last.is
    (rw c.machine-machine.ensures at c.in_ok-step.ensures.step) c.requires.right.done c.in-Holds.ensures.fields c.in-Ok.ensures.claim)

pub returns-clause-err : goal.returns-clause-err
returns-clause-err c =
    subst (IsStopped c.args.rom.now c.args.self.now.done c.args.from) (sym c.obstacle.ensures)
    (stops_absent c.args.rom.now c.args.self.now.done c.args.from c.loop-format.partial c.loop-format.invariant
    (record { cursor = c.loop-format.partial.cursor; cause = c.absence.result }) refl
    (λ format i e. c.in_default.not-Holds _ _ (c.read_cell.ensures.value ∙ e)) c.absence.ensures)
