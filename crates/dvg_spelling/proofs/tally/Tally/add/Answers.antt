use Rattle.dvg_spelling.proofs.Common.{rules}
use Rattle.dvg_spelling.proofs.tally.Tally.add.Goals as goal

pub returns-in-Accepted : goal.returns-in-Accepted
returns-in-Accepted c = search rules
