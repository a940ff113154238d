use Rattle.dvg_cmd.proofs.Common.{subst, sym}
use Rattle.dvg_cmd.specs.Frames.{judged_timed}
use Rattle.dvg_cmd.specs.Private.Judging.{IsAnswerOf}
use Rattle.dvg_cmd.proofs.timed_judge.TimedCertificatesFrameJudge.answer.Goals as goal

pub returns-in-Account-default-clause-answer : goal.returns-in-Account-default-clause-answer
returns-in-Account-default-clause-answer c =
    let own = c.args.self.now.own in
    let asked = c.args.self.now.asked in
    let said = subst (IsAnswerOf (judged_timed asked own) c.args.frame.now)
    (sym c.timed_answer.ensures) (c.explain_by_own-explained.ensures.answer asked.line) in
    said.answer
