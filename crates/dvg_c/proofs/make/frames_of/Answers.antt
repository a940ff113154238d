use Rattle.dvg_c.proofs.Common.{arith, rules, common_steps, of_each_append}
use Rattle.dvg_c.proofs.Cutting.{cut_next}
use Rattle.dvg_c.proofs.make.frames_of.Goals as goal

pub frames-preserved : goal.frames-preserved
frames-preserved c = grind (arith, rules, common_steps, cut_next, of_each_append)
