use Rattle.dvg_make.proofs.merged_entries.merged.Given as goal
use Rattle.dvg_make.proofs.Adding.{Added}

abbrev pub invariant-loop-entry : goal.invariant-loop-entry
invariant-loop-entry l = Added l.fn.entries l.fn.made l.entry-index l.merged
