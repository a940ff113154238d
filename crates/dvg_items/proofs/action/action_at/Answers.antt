use Rattle.dvg_items.proofs.Common.{rules}
use Rattle.dvg_items.proofs.action.action_at.Goals as goal

pub returns-in-Jsrl-Some-clause-extent : goal.returns-in-Jsrl-Some-clause-extent
returns-in-Jsrl-Some-clause-extent c = search rules
