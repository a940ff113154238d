use Rattle.dvg_cmd.proofs.Common.{arith, common_steps, drop-cons, drop_all}
use Rattle.dvg_cmd.specs.Remarking.{with_remarks}
use Rattle.dvg_cmd.proofs.summary.count_remarks.Goals as goal

pub loop-remark-preserved : goal.loop-remark-preserved
loop-remark-preserved c = grind (arith, common_steps, with_remarks, drop-cons)

pub returns : goal.returns
returns c = grind (arith, common_steps, with_remarks, drop_all)
