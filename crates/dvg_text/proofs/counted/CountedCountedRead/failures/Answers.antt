use Rattle.dvg_text.proofs.Common.{rules}
use Rattle.dvg_text.proofs.counted.CountedCountedRead.failures.Goals as goal

pub returns : goal.returns
returns g c = search rules
