use Rattle.dvg_survey.proofs.Common.{length}
use Rattle.dvg_survey.proofs.Sweeping.{Covered}
use Rattle.dvg_survey.proofs.places.broken_entries.Given as goal

abbrev pub invariant-sweeps : goal.invariant-sweeps
invariant-sweeps g l = Covered l.window l.rom (g.E.Entries.list l.entries) l.swept.items l.broken

abbrev pub decreases-sweeps : goal.decreases-sweeps
decreases-sweeps g l = length l.swept.items
