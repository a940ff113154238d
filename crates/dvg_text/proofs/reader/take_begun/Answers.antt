use Rattle.dvg_text.proofs.Common.{rules}
use Rattle.dvg_text.proofs.reader.take_begun.Goals as goal

pub returns-in_err-take_line-clause-line : goal.returns-in_err-take_line-clause-line
returns-in_err-take_line-clause-line c = search rules

pub returns-clause-line : goal.returns-clause-line
returns-clause-line c = search rules
