use Rattle.dvg_circuit.proofs.Common.{rules}
use Rattle.dvg_circuit.proofs.laws.shown_in_window.Goals as goal

pub returns : goal.returns
returns c = search rules
