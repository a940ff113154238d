use Rattle.dvg_text.proofs.Common.{arith, append_assoc, LINE_FEED, [], ◌∷◌}
use Rattle.dvg_text.proofs.Steps.{past_reads}
use Rattle.dvg_text.proofs.WholeLines.{entry_reads, fields_then}
use Rattle.dvg_text.proofs.line.ended_entry.Goals as goal

pub returns : goal.returns
returns c = grind (
  arith,
  (entry_reads c.args.first c.args.last c.args.bytes.now c.requires),
  (fields_then c.in_ok-entry.entry c.in_ok-entry.rest.now),
  (past_reads (LINE_FEED ∷ []) c.in_ok-entry.rest.now),
  append_assoc,
)
