use Rattle.dvg_check.proofs.Common.{arith}
use Rattle.dvg_check.proofs.CircuitExample.{worked_circuit}
use Rattle.dvg_check.proofs.laws.worked_circuit.Goals as goal

pub returns : goal.returns
returns c = grind (arith, worked_circuit)
