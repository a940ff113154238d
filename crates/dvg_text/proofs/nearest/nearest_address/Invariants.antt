use Rattle.dvg_text.proofs.Common.{◌≤◌}
use Rattle.dvg_text.proofs.nearest.nearest_address.Given as goal

abbrev pub invariant-loop-address : goal.invariant-loop-address
invariant-loop-address l = (l.first ≤ l.nearest) × (l.nearest ≤ l.last)
