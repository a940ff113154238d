use Rattle.dvg_make.proofs.Common.{rules}
use Rattle.dvg_make.proofs.least.boxed.Goals as goal

pub returns-in-Some : goal.returns-in-Some
returns-in-Some c = search rules
