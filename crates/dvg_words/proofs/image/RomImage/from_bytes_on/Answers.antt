use Rattle.dvg_words.proofs.Common.{arith, rules}
use Rattle.dvg_words.proofs.WordLists.{words_of_len}
use Rattle.dvg_words.proofs.image.RomImage.from_bytes_on.Goals as goal

pub invariant_of-result : goal.invariant_of-result
invariant_of-result c = search rules

pub returns-clause-image : goal.returns-clause-image
returns-clause-image c = search rules

pub returns-clause-whole : goal.returns-clause-whole
returns-clause-whole c = grind (arith, words_of_len)
