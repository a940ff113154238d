use Rattle.dvg_check.proofs.Circuit.{counts_on_circuit as law}
use Rattle.dvg_check.proofs.laws.counts_on_circuit.Goals as goal

pub returns : goal.returns
returns c = law
