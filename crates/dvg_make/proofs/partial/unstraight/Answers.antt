use Rattle.dvg_make.proofs.Common.{rules}
use Rattle.dvg_make.proofs.partial.unstraight.Goals as goal

pub returns-in_default : goal.returns-in_default
returns-in_default c = search rules
