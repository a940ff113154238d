use Rattle.dvg_text.proofs.Common.{◌≡◌, ◌++◌, length, IsTaken, IsRest, text_taken}
use Rattle.dvg_text.proofs.reader.take_piece.Given as goal

abbrev pub invariant-loop-after : goal.invariant-loop-after
invariant-loop-after l =
    IsTaken l.lines × IsRest l.lines l.begun.items
    × ((text_taken l.fn.lines ++ l.fn.begun.items) ++ l.piece ≡ text_taken l.lines ++ (l.begun.items ++ l.rest))

abbrev pub decreases-loop-after : goal.decreases-loop-after
decreases-loop-after l = length l.rest
