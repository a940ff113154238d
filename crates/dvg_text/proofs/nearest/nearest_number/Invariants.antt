use Rattle.std.specs.Prelude.{◌≤ℤ◌}
use Rattle.dvg_text.proofs.nearest.nearest_number.Given as goal

abbrev pub invariant-loop-digit : goal.invariant-loop-digit
invariant-loop-digit l = (l.least ≤ℤ l.nearest) × (l.nearest ≤ℤ l.most)
