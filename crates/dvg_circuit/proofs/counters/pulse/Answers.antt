use Rattle.dvg_circuit.proofs.Common.{arith, nat_tests, shr_and_one}
use Rattle.dvg_circuit.proofs.Ones.{counted_ones}
use Rattle.dvg_circuit.proofs.counters.pulse.Goals as goal

pub returns-then-ones-le9-clause-value : goal.returns-then-ones-le9-clause-value
returns-then-ones-le9-clause-value c = grind (arith, counted_ones, nat_tests, shr_and_one)
