use Rattle.dvg_words.proofs.Common.{arith}
use Rattle.std.proofs.lemmas.Grind.{common_steps}
use Rattle.dvg_words.proofs.beam.scaled.Goals as goal

pub returns-clause-low : goal.returns-clause-low
returns-clause-low c = grind (arith, common_steps)

pub returns-clause-high : goal.returns-clause-high
returns-clause-high c = grind (arith, common_steps)
