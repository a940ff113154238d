use Rattle.dvg_make.proofs.Common.{rules}
use Rattle.dvg_make.proofs.making.Making.make_call.Goals as goal

pub returns-clause-right : goal.returns-clause-right
returns-clause-right c = search rules

pub returns-clause-ok : goal.returns-clause-ok
returns-clause-ok c = search rules
