use Rattle.dvg_circuit.proofs.Showing.{lit_on_screen as law}
use Rattle.dvg_circuit.proofs.laws.lit_on_screen.Goals as goal

pub returns : goal.returns
returns c = law
