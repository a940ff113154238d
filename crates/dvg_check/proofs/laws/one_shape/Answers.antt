use Rattle.dvg_check.proofs.ShapeLaws.{one_shape as law}
use Rattle.dvg_check.proofs.laws.one_shape.Goals as goal

pub returns : goal.returns
returns c = law
