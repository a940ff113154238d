use Rattle.dvg_cmd.proofs.Common.{subst, sym}
use Rattle.dvg_cmd.specs.Frames.{judged_timed}
use Rattle.dvg_cmd.specs.Private.Judging.{IsAnswerOf}
use Rattle.dvg_cmd.proofs.Answers.{kept_answers, range_answers}
use Rattle.dvg_cmd.proofs.timed_judge.answer_by_kept.Goals as goal

pub returns-in-Ok-clause-answer : goal.returns-in-Ok-clause-answer
returns-in-Ok-clause-answer c =
    let own = c.args.own.now in
    let asked = c.args.asked.now in
    subst (IsAnswerOf (judged_timed asked own) c.args.frame.now)
    (sym c.timed_answer.ensures)
    (kept_answers asked own c.args.frame.now c.in-Ok.frame c.args.kept.now c.requires
    c.in-Ok.ensures.range c.in-Ok.ensures.frame c.judge.result c.judge.ensures.timed)

pub returns-in-Err-clause-answer : goal.returns-in-Err-clause-answer
returns-in-Err-clause-answer c =
    range_answers c.args.asked.now c.args.own.now c.args.frame.now c.in-Err.refusal c.in-Err.ensures.refused
