use Rattle.dvg_check.proofs.Common.{rules}
use Rattle.dvg_check.proofs.leaving.Limits.left_by.Goals as goal

pub returns-then-p-self-clause-some : goal.returns-then-p-self-clause-some
returns-then-p-self-clause-some c = search rules

pub returns-then-p-self-3-clause-some : goal.returns-then-p-self-3-clause-some
returns-then-p-self-3-clause-some c = search rules
