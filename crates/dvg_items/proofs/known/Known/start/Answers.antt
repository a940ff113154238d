use Rattle.dvg_items.proofs.Common.{rules}
use Rattle.dvg_items.proofs.known.Known.start.Goals as goal

pub returns-in-Frame : goal.returns-in-Frame
returns-in-Frame c = search rules
