use Rattle.dvg_spelling.proofs.Common.{append_assoc}
use Rattle.dvg_spelling.proofs.report.Report.push_accepted.Goals as goal

pub returns-clause-text : goal.returns-clause-text
returns-clause-text c =
    simp (c.push_count-3.ensures.text, c.push_count-2.ensures.text, c.push_count.ensures.text, c.from.ensures, append_assoc)
