use Rattle.dvg_check.proofs.FrameLaws.{exact_is_exact as law}
use Rattle.dvg_check.proofs.laws.exact_is_exact.Goals as goal

pub returns : goal.returns
returns c = law
