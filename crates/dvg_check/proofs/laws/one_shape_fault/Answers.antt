use Rattle.dvg_check.proofs.Faults.{one_shape_fault as law}
use Rattle.dvg_check.proofs.laws.one_shape_fault.Goals as goal

pub returns : goal.returns
returns c = law
