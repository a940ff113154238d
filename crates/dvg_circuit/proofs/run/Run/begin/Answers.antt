use Rattle.dvg_circuit.proofs.Common.{rules}
use Rattle.dvg_circuit.proofs.run.Run.begin.Goals as goal

pub returns : goal.returns
returns c = search rules
