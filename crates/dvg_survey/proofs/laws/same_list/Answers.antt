use Rattle.dvg_survey.proofs.Carrying.{same_list as law}
use Rattle.dvg_survey.proofs.laws.same_list.Goals as goal

pub returns : goal.returns
returns c = law
