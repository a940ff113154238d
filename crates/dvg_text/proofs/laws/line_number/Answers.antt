use Rattle.dvg_text.proofs.EachByte.{kept}
use Rattle.dvg_text.proofs.laws.line_number.Goals as goal

pub returns : goal.returns
returns c = λ text taken rest h. (kept text taken rest h).ends
