use Rattle.dvg_words.proofs.Common.{rules}
use Rattle.dvg_words.proofs.window.Window.is_for.Goals as goal

pub returns-in-Profile-clause-value : goal.returns-in-Profile-clause-value
returns-in-Profile-clause-value c = search rules

pub returns-in-Profile-clause-board : goal.returns-in-Profile-clause-board
returns-in-Profile-clause-board c = search rules

pub returns-in-Board-clause-value : goal.returns-in-Board-clause-value
returns-in-Board-clause-value c = search rules

pub returns-in-Board-clause-board : goal.returns-in-Board-clause-board
returns-in-Board-clause-board c = search rules
