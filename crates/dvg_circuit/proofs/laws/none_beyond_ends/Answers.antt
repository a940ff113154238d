use Rattle.dvg_circuit.proofs.Common.{arith, ints, nat_abs}
use Rattle.dvg_circuit.proofs.Rounding.{more_pulses}
use Rattle.dvg_circuit.proofs.laws.none_beyond_ends.Goals as goal

pub returns : goal.returns
returns c low high from size n all le h g = grind (arith, ints, (more_pulses (nat_abs size) n all le))
