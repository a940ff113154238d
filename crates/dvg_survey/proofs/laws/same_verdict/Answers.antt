use Rattle.dvg_survey.proofs.Carrying.{same_verdict as law}
use Rattle.dvg_survey.proofs.laws.same_verdict.Goals as goal

pub returns : goal.returns
returns c = law
