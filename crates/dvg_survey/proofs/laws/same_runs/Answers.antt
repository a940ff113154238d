use Rattle.dvg_survey.proofs.Running.{same_runs as law}
use Rattle.dvg_survey.proofs.laws.same_runs.Goals as goal

pub returns : goal.returns
returns c = law
