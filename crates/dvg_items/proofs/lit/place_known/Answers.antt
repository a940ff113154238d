use Rattle.dvg_items.proofs.Common.{rules}
use Rattle.dvg_items.proofs.lit.place_known.Goals as goal

pub returns-in_default-Lost : goal.returns-in_default-Lost
returns-in_default-Lost c = search rules
