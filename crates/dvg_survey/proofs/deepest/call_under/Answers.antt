use Rattle.dvg_survey.proofs.Common.{rules}
use Rattle.dvg_survey.proofs.deepest.call_under.Goals as goal

pub returns-clause-some : goal.returns-clause-some
returns-clause-some c = search rules
