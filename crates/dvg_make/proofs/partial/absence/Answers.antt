use Rattle.dvg_make.proofs.Common.{rules}
use Rattle.dvg_make.proofs.partial.absence.Goals as goal

pub returns-in-Odd : goal.returns-in-Odd
returns-in-Odd c = search rules
