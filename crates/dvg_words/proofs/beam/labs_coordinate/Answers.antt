use Rattle.dvg_words.proofs.Common.{rules}
use Rattle.dvg_words.proofs.beam.labs_coordinate.Goals as goal

pub returns-then-field-greatest-clause-value : goal.returns-then-field-greatest-clause-value
returns-then-field-greatest-clause-value c = search rules
