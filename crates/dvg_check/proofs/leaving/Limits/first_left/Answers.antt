use Rattle.dvg_check.proofs.Common.{rules}
use Rattle.dvg_check.proofs.leaving.Limits.first_left.Goals as goal

pub returns-in-None-clause-none : goal.returns-in-None-clause-none
returns-in-None-clause-none c = search rules
