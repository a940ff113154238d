use Rattle.dvg_make.proofs.Common.{rules}
use Rattle.dvg_make.proofs.OneFrame.{one_made_for}
use Rattle.dvg_make.proofs.laws.one_made.Goals as goal

pub returns : goal.returns
returns c = λ rom roots a b made_a made_b. search (rules, one_made_for)
