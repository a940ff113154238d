use Rattle.dvg_make.proofs.Common.{rules}
use Rattle.dvg_make.proofs.judging.is_relative.Goals as goal

pub returns-in-Rel : goal.returns-in-Rel
returns-in-Rel c = search rules
