use Rattle.dvg_circuit.proofs.Common.{rules}
use Rattle.dvg_circuit.proofs.circuit.Circuit.go_back.Goals as goal

pub returns : goal.returns
returns c = search rules
