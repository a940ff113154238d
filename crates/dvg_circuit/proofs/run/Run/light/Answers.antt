use Rattle.dvg_circuit.proofs.Common.{rules}
use Rattle.dvg_circuit.proofs.run.Run.light.Goals as goal

pub returns-clause-ok : goal.returns-clause-ok
returns-clause-ok c = search rules
