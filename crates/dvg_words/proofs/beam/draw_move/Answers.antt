use Rattle.dvg_words.proofs.Common.{rules, displacement}
use Rattle.dvg_words.proofs.beam.draw_move.Goals as goal

pub returns-in_default-clause-value : goal.returns-in_default-clause-value
unfolding displacement
returns-in_default-clause-value c = search rules

pub returns-in-Profile-clause-value : goal.returns-in-Profile-clause-value
unfolding displacement
returns-in-Profile-clause-value c = search rules

pub returns-in-Profile-clause-least : goal.returns-in-Profile-clause-least
unfolding displacement
returns-in-Profile-clause-least c = search rules
