use Rattle.dvg_words.proofs.Common.{arith}
use Rattle.std.proofs.lemmas.Grind.{common_steps}
use Rattle.dvg_words.proofs.decoding.labs.Goals as goal

pub returns-in-Board-clause-value : goal.returns-in-Board-clause-value
returns-in-Board-clause-value c = grind (arith, common_steps)
