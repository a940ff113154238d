use Rattle.dvg_words.proofs.Common.{arith, to_z-of_z}
use Rattle.dvg_words.proofs.window.in_window.Goals as goal

pub returns-then-is_within : goal.returns-then-is_within
returns-then-is_within c = grind (arith, to_z-of_z)
