use Rattle.std.proofs.Common.{◌≡◌, false}
use Rattle.dvg_dumps.specs.Front.{any_below}
use Rattle.dvg_dumps.specs.Faults.{is_known_difference}
use Rattle.dvg_dumps.proofs.fault.knows_a_difference.Given as goal

abbrev pub invariant-loop-at : goal.invariant-loop-at
invariant-loop-at l = any_below (is_known_difference l.fault l.good l.other) l.at ≡ false
