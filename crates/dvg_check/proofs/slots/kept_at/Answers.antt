use Rattle.dvg_check.proofs.Common.{arith, common_steps}
use Rattle.dvg_check.proofs.slots.kept_at.Goals as goal

pub returns-then-eq : goal.returns-then-eq
returns-then-eq g c = grind (arith, common_steps)
