use Rattle.dvg_words.proofs.Common.{arith, to_z-of_z}
use Rattle.dvg_words.proofs.window.is_within.Goals as goal

pub returns : goal.returns
returns c = grind (arith, to_z-of_z)
