use Rattle.dvg_survey.proofs.Common.{take, IsSwept}
use Rattle.dvg_survey.proofs.places.sweep.Given as goal

-- so far, over the entries before the next one
abbrev pub invariant-loop-entry : goal.invariant-loop-entry
invariant-loop-entry g l =
    IsSwept l.window l.rom (g.E.Entries.list l.entries) (take l.entry-index l.swept) l.left.items l.fn.broken l.broken
