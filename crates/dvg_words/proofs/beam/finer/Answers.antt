use Rattle.dvg_words.proofs.Common.{rules}
use Rattle.dvg_words.proofs.Rounding.{rounds_at}
use Rattle.dvg_words.proofs.beam.finer.Goals as goal
use Rattle.dvg_words.proofs.Common.{arith}
use Rattle.std.proofs.lemmas.Grind.{common_steps}

pub returns : goal.returns
returns c = search (rules, rounds_at c.args.size c.args.scale c.requires.size_low c.requires.size_high c.requires.scale)

pub overflow_mul-result : goal.overflow_mul-result
overflow_mul-result c = grind (arith, common_steps)
