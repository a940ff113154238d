use Rattle.dvg_check.proofs.Faults.{one_count as law}
use Rattle.dvg_check.proofs.laws.one_count.Goals as goal

pub returns : goal.returns
returns c = law
