use Rattle.dvg_survey.proofs.Common.{take, AreTouched}
use Rattle.dvg_survey.proofs.touched.touched_entries.Given as goal

abbrev pub invariant-loop-entry : goal.invariant-loop-entry
invariant-loop-entry l = AreTouched l.rom l.other (take l.entry-index l.entries) l.touched.items
