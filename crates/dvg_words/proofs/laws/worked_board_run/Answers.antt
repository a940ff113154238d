use Rattle.dvg_words.proofs.Common.{rules, displacement, cell_at, instruction_of, next_status}
use Rattle.dvg_words.proofs.laws.worked_board_run.Goals as goal

pub returns : goal.returns
unfolding next_status cell_at instruction_of displacement
returns c = record { steps = λ place scale. search rules depth 20; halts = λ place scale. search rules depth 20 }
