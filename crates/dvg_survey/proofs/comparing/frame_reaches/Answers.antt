use Rattle.dvg_survey.proofs.Common.{rules}
use Rattle.dvg_survey.proofs.comparing.frame_reaches.Goals as goal

pub returns : goal.returns
returns c = search rules
