use Rattle.dvg_check.proofs.Common.{rules}
use Rattle.dvg_check.proofs.tail.claims_less.Goals as goal

pub returns-then-eq-2 : goal.returns-then-eq-2
returns-then-eq-2 c = search rules
