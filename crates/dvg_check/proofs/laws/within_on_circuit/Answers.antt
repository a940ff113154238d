use Rattle.dvg_check.proofs.Circuit.{within_on_circuit as law}
use Rattle.dvg_check.proofs.laws.within_on_circuit.Goals as goal

pub returns : goal.returns
returns c = law
