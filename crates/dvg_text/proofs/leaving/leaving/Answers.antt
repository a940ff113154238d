use Rattle.dvg_text.proofs.Columns.{allowed_before}
use Rattle.dvg_text.proofs.leaving.leaving.Goals as goal

pub returns : goal.returns
returns c = λ text whole. allowed_before _ _ text _ c.common.ensures.first c.common.ensures.same whole
