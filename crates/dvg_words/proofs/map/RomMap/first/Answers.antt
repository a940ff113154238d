use Rattle.dvg_words.proofs.Common.{rules}
use Rattle.dvg_words.proofs.map.RomMap.first.Goals as goal

pub returns-clause-value : goal.returns-clause-value
returns-clause-value c = search rules
