use Rattle.dvg_circuit.proofs.Common.{arith}
use Rattle.std.proofs.lemmas.Grind.{common_steps}
use Rattle.dvg_circuit.proofs.circuit.past.Goals as goal

pub returns : goal.returns
returns c = grind (arith, common_steps)
