use Rattle.dvg_check.proofs.Common.{rules}
use Rattle.dvg_check.proofs.shapes.first_broken.Goals as goal

pub returns-in_default-7 : goal.returns-in_default-7
returns-in_default-7 c = search rules

pub returns-in_default-8 : goal.returns-in_default-8
returns-in_default-8 c = search rules

pub returns-in_default-9 : goal.returns-in_default-9
returns-in_default-9 c = search rules

pub returns-in_default-10 : goal.returns-in_default-10
returns-in_default-10 c = search rules

pub returns-in_default-12 : goal.returns-in_default-12
returns-in_default-12 c = search rules
