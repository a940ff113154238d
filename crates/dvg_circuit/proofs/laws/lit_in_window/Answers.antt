use Rattle.dvg_circuit.proofs.Showing.{lit_in_window as law}
use Rattle.dvg_circuit.proofs.laws.lit_in_window.Goals as goal

pub returns : goal.returns
returns c = law
