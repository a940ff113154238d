use Rattle.dvg_circuit.proofs.Common.{rules}
use Rattle.dvg_circuit.proofs.run.Run.step.Goals as goal

pub returns-then-is_err-clause-err : goal.returns-then-is_err-clause-err
returns-then-is_err-clause-err g c = search rules
