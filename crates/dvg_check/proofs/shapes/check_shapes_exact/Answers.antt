use Rattle.dvg_check.proofs.Common.{rules}
use Rattle.dvg_check.proofs.shapes.check_shapes_exact.Goals as goal

pub returns-clause-ok : goal.returns-clause-ok
returns-clause-ok g c = search rules

pub returns-clause-err : goal.returns-clause-err
returns-clause-err g c = search rules
