use Rattle.dvg_survey.proofs.Common.{rules}
use Rattle.dvg_survey.proofs.items.lit_with.Goals as goal

pub returns-in-Some : goal.returns-in-Some
returns-in-Some c = search rules

pub absolute_corners-requires-clause-place : goal.absolute_corners-requires-clause-place
absolute_corners-requires-clause-place c = search rules

pub returns-in-None : goal.returns-in-None
returns-in-None c = search rules
