use Rattle.dvg_check.proofs.Common.{arith, common_steps}
use Rattle.dvg_check.proofs.slots.keep.Goals as goal

pub returns-clause-kept : goal.returns-clause-kept
returns-clause-kept g c = grind (arith, common_steps)
