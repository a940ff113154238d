use Rattle.dvg_check.proofs.Drift.{inset_is_safe as law}
use Rattle.dvg_check.proofs.laws.inset_is_safe.Goals as goal

pub returns : goal.returns
returns c = law c.half_place.ensures
