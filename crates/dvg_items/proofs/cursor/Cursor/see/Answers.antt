use Rattle.dvg_items.proofs.Common.{arith}
use Rattle.dvg_items.proofs.Reached.{place_more}
use Rattle.dvg_items.proofs.cursor.Cursor.see.Goals as goal

pub returns-clause-sound : goal.returns-clause-sound
returns-clause-sound c = grind (arith, place_more)
