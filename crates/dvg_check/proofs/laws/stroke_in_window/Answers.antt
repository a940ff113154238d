use Rattle.dvg_check.proofs.Common.{arith, ints}
use Rattle.dvg_check.proofs.laws.stroke_in_window.Goals as goal

pub returns : goal.returns
returns c w a b p from to across up = omega (arith, ints)
