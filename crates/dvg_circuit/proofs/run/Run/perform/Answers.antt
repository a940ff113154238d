use Rattle.dvg_circuit.proofs.Common.{rules}
use Rattle.dvg_circuit.proofs.run.Run.perform.Goals as goal

pub returns-in-Labs : goal.returns-in-Labs
returns-in-Labs c = search rules
