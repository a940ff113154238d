use Rattle.dvg_cmd.proofs.Common.{Err, subst, sym}
use Rattle.dvg_make.specs.declared.judging.FrameRefusal.TheVariants.{Check}
use Rattle.dvg_cmd.specs.Frames.{Judged, VerdictBy, judged_timed, told_with}
use Rattle.dvg_cmd.specs.Private.Judging.{IsAnswerOf}
use Rattle.dvg_cmd.specs.declared.timed_judge.LineClocks.{LineClocks}
use Rattle.dvg_cmd.specs.declared.timed_judge.LineClocks.TheVariants as line
use Rattle.dvg_cmd.proofs.Answers.{own_verdict, plain_answers, timed_answers}
use Rattle.dvg_cmd.proofs.frame_judge.explain_by_own.Goals as goal

pub returns-in-Err-clause-answer : goal.returns-in-Err-clause-answer
returns-in-Err-clause-answer c = by
  where
    by : (l : LineClocks) → IsAnswerOf (judged_timed (record { timing = c.args.timing.now; line = l }) c.args.own.now) c.args.frame.now
        (told_with l (Judged (Err (Check c.in-Err.refusal))))
    by line.Told =
        plain_answers (record { timing = c.args.timing.now; line = line.Told }) c.args.own.now c.args.frame.now c.in-Err.refusal
        c.in-Err.ensures.err
    by line.LeftOut =
        plain_answers (record { timing = c.args.timing.now; line = line.LeftOut }) c.args.own.now c.args.frame.now c.in-Err.refusal
        c.in-Err.ensures.err

pub returns-in-Ok-clause-verdict : goal.returns-in-Ok-clause-verdict
returns-in-Ok-clause-verdict c =
    let own = c.args.own.now in
    let said = c.explain_timed-timed.ensures in
    subst (VerdictBy own c.args.frame.now) (sym c.own_verdict.ensures)
    (own_verdict own c.args.frame.now c.in-Ok.image c.in-Ok.rom c.in-Ok.ensures.ok _
    (record { verdict = said.own; means = said.means; least = said.least; refused = said.refused; told = said.told }))

pub returns-in-Ok-clause-answer : goal.returns-in-Ok-clause-answer
returns-in-Ok-clause-answer c l =
    timed_answers (record { timing = c.args.timing.now; line = l }) c.args.own.now c.args.frame.now c.in-Ok.image c.in-Ok.rom
    c.in-Ok.ensures.ok c.explain_timed-timed.result.answer c.explain_timed-timed.ensures.timed
