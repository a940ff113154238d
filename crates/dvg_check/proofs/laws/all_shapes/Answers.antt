use Rattle.dvg_check.proofs.ShapeLaws.{all_shapes as law}
use Rattle.dvg_check.proofs.laws.all_shapes.Goals as goal

pub returns : goal.returns
returns c = law
