use Rattle.dvg_spelling.proofs.Common.{rules}
use Rattle.dvg_account.proofs.swapped.find_swapped.Goals as goal

pub returns-then-is_some : goal.returns-then-is_some
returns-then-is_some c = search rules

pub returns-in-Some-2 : goal.returns-in-Some-2
returns-in-Some-2 c = search rules
