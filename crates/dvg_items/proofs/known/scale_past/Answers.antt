use Rattle.dvg_items.proofs.Common.{rules}
use Rattle.dvg_items.proofs.known.scale_past.Goals as goal

pub returns-in-Jsrl-Some-clause-value : goal.returns-in-Jsrl-Some-clause-value
returns-in-Jsrl-Some-clause-value c = search rules
