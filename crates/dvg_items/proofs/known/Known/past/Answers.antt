use Rattle.dvg_items.proofs.Common.{rules}
use Rattle.dvg_items.proofs.known.Known.past.Goals as goal

pub returns-clause-value : goal.returns-clause-value
returns-clause-value c = search rules
