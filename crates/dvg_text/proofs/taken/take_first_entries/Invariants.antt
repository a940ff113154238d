use Rattle.dvg_text.proofs.Common.{◌≡◌, ◌++◌, ◌≤◌, length, begun_with, IsCertificate}
use Rattle.dvg_text.proofs.taken.take_first_entries.Given as goal

abbrev pub invariant-loop-entry : goal.invariant-loop-entry
invariant-loop-entry l =
    IsCertificate l.map l.entries.items × (begun_with l.map l.fn.entries.items ++ l.bytes ≡ begun_with l.map l.entries.items ++ l.rest)
    × (length l.rest ≤ length l.bytes)

abbrev pub decreases-loop-entry : goal.decreases-loop-entry
decreases-loop-entry l = length l.rest
