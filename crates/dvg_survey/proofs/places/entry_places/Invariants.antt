use Rattle.dvg_survey.proofs.Common.{take, AreAllPlaces}
use Rattle.dvg_survey.proofs.places.entry_places.Given as goal

abbrev pub invariant-loop-entry : goal.invariant-loop-entry
invariant-loop-entry g l = AreAllPlaces l.window l.rom l.cert.entries (take l.entry-index l.list) l.places.items
