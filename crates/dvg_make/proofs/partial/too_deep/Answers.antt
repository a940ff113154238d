use Rattle.dvg_make.proofs.Common.{rules}
use Rattle.dvg_make.proofs.partial.too_deep.Goals as goal

pub returns-clause-none : goal.returns-clause-none
returns-clause-none c = search rules
