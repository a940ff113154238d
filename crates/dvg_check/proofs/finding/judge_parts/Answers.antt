use Rattle.dvg_check.proofs.Common.{rules}
use Rattle.dvg_check.proofs.finding.judge_parts.Goals as goal

pub returns-in-Ok-judge_frame : goal.returns-in-Ok-judge_frame
returns-in-Ok-judge_frame c = search rules
