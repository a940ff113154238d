use Rattle.dvg_make.proofs.Common.{rules}
use Rattle.dvg_make.proofs.partial.PartialEntry.end_by.Goals as goal

pub returns-in-Ok-Last-default : goal.returns-in-Ok-Last-default
returns-in-Ok-Last-default c = search rules
