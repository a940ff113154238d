use Rattle.dvg_check.proofs.FrameLaws.{good_is_safe as law}
use Rattle.dvg_check.proofs.laws.good_is_safe.Goals as goal

pub returns : goal.returns
returns c = law
