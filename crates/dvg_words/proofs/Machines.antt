-- How a board moves.
use Rattle.dvg_words.proofs.Common.{arith, ints, nat_tests}
use Rattle.dvg_words.specs.Machines.{BoardMoves}

pub board_moves : BoardMoves
board_moves = grind (arith, nat_tests, ints)
