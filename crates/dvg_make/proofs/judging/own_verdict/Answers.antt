use Rattle.dvg_make.proofs.Common.{rules}
use Rattle.dvg_make.proofs.judging.own_verdict.Goals as goal

pub returns-in-Err : goal.returns-in-Err
returns-in-Err c = search rules
