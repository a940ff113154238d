use Rattle.dvg_text.proofs.Common.{rules}
use Rattle.dvg_text.proofs.counted.CountedCountedWrite.write_counted.Goals as goal

pub returns-in-Ok-clause-whole : goal.returns-in-Ok-clause-whole
returns-in-Ok-clause-whole g c = search rules

pub returns-in-Ok-eq0 : goal.returns-in-Ok-eq0
returns-in-Ok-eq0 g c = search rules
