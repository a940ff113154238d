use Rattle.dvg_check.proofs.Common.{rules}
use Rattle.dvg_check.proofs.cause.shape_cause_of_item.Goals as goal

pub returns-in-TooManyWords : goal.returns-in-TooManyWords
returns-in-TooManyWords c = search rules

pub returns-in-TooDeep : goal.returns-in-TooDeep
returns-in-TooDeep c = search rules
