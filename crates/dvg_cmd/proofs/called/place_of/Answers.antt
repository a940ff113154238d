use Rattle.dvg_cmd.proofs.Common.{arith, common_steps, drop-cons}
use Rattle.dvg_cmd.specs.Called.{place_in}
use Rattle.dvg_cmd.proofs.called.place_of.Goals as goal

pub loop-at-preserved : goal.loop-at-preserved
loop-at-preserved c = grind (arith, common_steps, place_in, drop-cons)
