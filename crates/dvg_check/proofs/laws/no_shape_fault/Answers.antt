use Rattle.dvg_check.proofs.Faults.{no_shape_fault as law}
use Rattle.dvg_check.proofs.laws.no_shape_fault.Goals as goal

pub returns : goal.returns
returns c = law
