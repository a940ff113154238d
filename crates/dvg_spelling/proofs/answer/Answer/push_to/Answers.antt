use Rattle.dvg_spelling.proofs.Common.{◌++◌, ◌∙◌, ap, arith, common_steps}
use Rattle.std.proofs.Common.{sym}
use Rattle.dvg_spelling.specs.Report.{answer_text}
use Rattle.dvg_spelling.proofs.answer.Answer.push_to.Goals as goal

pub returns-in-Slow-clause-text : goal.returns-in-Slow-clause-text
returns-in-Slow-clause-text g c = grind (arith, common_steps, answer_text)

pub returns-in-Unread-clause-text : goal.returns-in-Unread-clause-text
returns-in-Unread-clause-text g c = c.push.ensures ∙ ap (λ a. c.args.line.now ++ answer_text g.R.Why.text a) (sym c.in-Unread.is)

pub returns-in-NoMemory-clause-text : goal.returns-in-NoMemory-clause-text
returns-in-NoMemory-clause-text g c =
    c.push-in-NoMemory.ensures ∙ ap (λ a. c.args.line.now ++ answer_text g.R.Why.text a) (sym c.in-NoMemory.is)
