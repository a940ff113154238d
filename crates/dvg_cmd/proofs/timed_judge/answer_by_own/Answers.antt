use Rattle.dvg_cmd.proofs.Common.{subst, sym}
use Rattle.dvg_clocks.specs.Judging.{IsTimed}
use Rattle.dvg_cmd.specs.Frames.{judged_timed}
use Rattle.dvg_cmd.specs.Private.Judging.{IsAnswerOf}
use Rattle.dvg_cmd.proofs.Answers.{plain_answers, timed_answers}
use Rattle.dvg_cmd.proofs.timed_judge.answer_by_own.Goals as goal

pub returns-in-Ok : goal.returns-in-Ok
returns-in-Ok c =
    let own = c.args.own.now in
    let asked = c.args.asked.now in
    let said : IsTimed asked.timing c.in-Ok.rom c.in-Ok.frame own.window own.budget c.judge_timed.result =
    record {
      verdict = c.judge_timed.ensures.verdict;
      means = c.judge_timed.ensures.means;
      least = c.judge_timed.ensures.least;
      clocks = c.judge_timed.ensures.clocks;
      refused = c.judge_timed.ensures.refused;
    } in
    subst (IsAnswerOf (judged_timed asked own) c.args.frame.now)
    (sym c.timed_answer.ensures)
    (timed_answers asked own c.args.frame.now c.in-Ok.frame c.in-Ok.rom c.in-Ok.ensures.ok c.judge_timed.result said)

pub returns-in-Err : goal.returns-in-Err
returns-in-Err c = plain_answers c.args.asked.now c.args.own.now c.args.frame.now c.in-Err.refusal c.in-Err.ensures.err
