use Rattle.dvg_spelling.proofs.Common.{◌≡◌, ◌++◌, length}
use Rattle.dvg_account.specs.Swapped.{swapped}
use Rattle.dvg_account.proofs.swapped.swap_words.Given as goal

abbrev pub invariant-loop-low : goal.invariant-loop-low
invariant-loop-low l = l.other.items ++ swapped l.rest ≡ swapped l.bytes

abbrev pub decreases-loop-low : goal.decreases-loop-low
decreases-loop-low l = length l.rest
