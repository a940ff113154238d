use Rattle.dvg_make.proofs.FrameBest.{none_better as law}
use Rattle.dvg_make.proofs.laws.none_better.Goals as goal

pub returns : goal.returns
returns c = law
