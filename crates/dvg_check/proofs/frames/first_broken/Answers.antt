use Rattle.dvg_check.proofs.Common.{rules}
use Rattle.dvg_check.proofs.frames.first_broken.Goals as goal

pub returns-in_default-6 : goal.returns-in_default-6
returns-in_default-6 c = search rules
