use Rattle.dvg_words.proofs.Common.{rules}
use Rattle.dvg_words.proofs.decoding.signed_size.Goals as goal

pub returns-then-sign-eq1 : goal.returns-then-sign-eq1
returns-then-sign-eq1 c = search rules
