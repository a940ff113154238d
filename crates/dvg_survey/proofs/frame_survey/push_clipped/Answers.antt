use Rattle.dvg_survey.proofs.Common.{rules}
use Rattle.dvg_survey.proofs.frame_survey.push_clipped.Goals as goal

pub returns-in_ok-push : goal.returns-in_ok-push
returns-in_ok-push c = search rules

pub returns-else-not-lit_in_window : goal.returns-else-not-lit_in_window
returns-else-not-lit_in_window c = search rules
