use Rattle.dvg_words.proofs.Common.{rules}
use Rattle.dvg_words.proofs.window.is_between.Goals as goal

pub returns-then-first-coordinate : goal.returns-then-first-coordinate
returns-then-first-coordinate c = search rules
