use Rattle.dvg_check.proofs.Common.{rules}
use Rattle.dvg_check.proofs.judged.JudgedShapes.judge_shapes.Goals as goal

pub invariant_of-result : goal.invariant_of-result
invariant_of-result g c = search rules

pub returns-clause-good : goal.returns-clause-good
returns-clause-good g c = search rules
