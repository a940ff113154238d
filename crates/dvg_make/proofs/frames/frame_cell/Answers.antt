use Rattle.dvg_make.proofs.Common.{rules}
use Rattle.dvg_make.proofs.frames.frame_cell.Goals as goal

pub returns-clause-value : goal.returns-clause-value
returns-clause-value c = search rules
