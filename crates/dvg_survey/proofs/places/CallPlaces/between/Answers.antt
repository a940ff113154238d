use Rattle.dvg_survey.proofs.Common.{rules}
use Rattle.dvg_survey.proofs.places.CallPlaces.between.Goals as goal

pub returns-then-x_min-x_max-clause-places : goal.returns-then-x_min-x_max-clause-places
returns-then-x_min-x_max-clause-places c = search rules
