use Rattle.dvg_survey.proofs.Common.{rules}
use Rattle.dvg_survey.proofs.touched.differing_at.Goals as goal

pub returns-clause-none : goal.returns-clause-none
returns-clause-none c = search rules
