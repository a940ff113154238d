use Rattle.dvg_check.proofs.Circuit.{safe_on_circuit as law}
use Rattle.dvg_check.proofs.laws.safe_on_circuit.Goals as goal

pub returns : goal.returns
returns c = law
