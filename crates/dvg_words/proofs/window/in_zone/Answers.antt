use Rattle.dvg_words.proofs.Common.{rules}
use Rattle.dvg_words.proofs.window.in_zone.Goals as goal

pub invariant_of-in_window : goal.invariant_of-in_window
invariant_of-in_window c = search rules

pub returns : goal.returns
returns c = search rules
