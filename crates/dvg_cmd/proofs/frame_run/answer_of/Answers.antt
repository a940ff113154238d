use Rattle.dvg_cmd.proofs.Common.{◌≡◌, count_after, refl, subst, sym}
use Rattle.dvg_cmd.proofs.Answers.{answers_judged}
use Rattle.dvg_cmd.proofs.frame_run.answer_of.Goals as goal

pub returns-in-Ok-clause-answers : goal.returns-in-Ok-clause-answers
returns-in-Ok-clause-answers g c =
    answers_judged _ c.args.start _ _ c.answer-answer.result.0 _ _ c.in-Ok.ensures.read c.in-Ok.ensures.bytes refl
    c.answer-answer.ensures.answer c.answer-answer.ensures.whole c.answer-answer.ensures.means c.answer-answer.ensures.told

pub returns-in-Ok-clause-count : goal.returns-in-Ok-clause-count
returns-in-Ok-clause-count g c =
    subst (λ b. g.R.CountedRead.failures c.read_started.new.frame ≡ count_after b (g.R.CountedRead.failures c.args.frame.now))
    (sym c.answer-answer.ensures.judged) c.in-Ok.ensures.count
