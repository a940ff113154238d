use Rattle.dvg_circuit.proofs.Following.{circuit_follows as law}
use Rattle.dvg_circuit.proofs.laws.circuit_follows.Goals as goal

pub returns : goal.returns
returns c = law
