use Rattle.dvg_check.proofs.Common.{◌-◌, ◌≤◌}
use Rattle.dvg_check.proofs.needed.Needed.last_between.Given as goal

abbrev pub invariant-places : goal.invariant-places
invariant-places l = record { near : l.at ≤ l.to }

abbrev pub decreases-places : goal.decreases-places
decreases-places l = l.at - l.from
