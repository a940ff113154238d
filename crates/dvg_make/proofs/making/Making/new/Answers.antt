use Rattle.dvg_make.proofs.Common.{arith}
use Rattle.dvg_make.proofs.making.Making.new.Goals as goal

pub returns-clause-right : goal.returns-clause-right
returns-clause-right c = grind (arith)
