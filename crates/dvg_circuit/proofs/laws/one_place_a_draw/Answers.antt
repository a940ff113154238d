use Rattle.dvg_circuit.proofs.AnyStart.{one_place_a_draw as law}
use Rattle.dvg_circuit.proofs.laws.one_place_a_draw.Goals as goal

pub returns : goal.returns
returns c = law
