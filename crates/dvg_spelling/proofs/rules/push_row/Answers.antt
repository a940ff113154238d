use Rattle.dvg_spelling.proofs.Common.{arith, common_steps}
use Rattle.dvg_spelling.proofs.rules.push_row.Goals as goal

pub returns : goal.returns
returns c = grind (arith, common_steps)
