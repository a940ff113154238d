use Rattle.dvg_words.proofs.Common.{rules}
use Rattle.dvg_words.proofs.map.RomMap.new.Goals as goal

pub invariant_of-result : goal.invariant_of-result
invariant_of-result c = search rules

pub returns-then-last-le-MEMORY_LAST-clause-some : goal.returns-then-last-le-MEMORY_LAST-clause-some
returns-then-last-le-MEMORY_LAST-clause-some c = search rules
