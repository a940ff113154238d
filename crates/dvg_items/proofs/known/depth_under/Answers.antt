use Rattle.dvg_items.proofs.Common.{rules}
use Rattle.dvg_items.proofs.known.depth_under.Goals as goal

pub returns-in-Jmpl-Some-clause-value : goal.returns-in-Jmpl-Some-clause-value
returns-in-Jmpl-Some-clause-value c = search rules
