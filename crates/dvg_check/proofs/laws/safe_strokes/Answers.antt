use Rattle.dvg_check.proofs.Safety.{safe_strokes as law}
use Rattle.dvg_check.proofs.laws.safe_strokes.Goals as goal

pub returns : goal.returns
returns c = law c.stroke_in_window.ensures
