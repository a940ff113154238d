use Rattle.dvg_cmd.proofs.Common.{rules}
use Rattle.dvg_cmd.proofs.running.judge_taken.Goals as goal

pub returns-in-Ok : goal.returns-in-Ok
returns-in-Ok c = search rules

pub returns-in-Err : goal.returns-in-Err
returns-in-Err c = search rules
