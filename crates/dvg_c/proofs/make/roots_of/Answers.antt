use Rattle.dvg_c.proofs.Common.{arith, common_steps}
use Rattle.dvg_c.proofs.make.roots_of.Goals as goal

pub roots-preserved : goal.roots-preserved
roots-preserved c = grind (arith, common_steps)
