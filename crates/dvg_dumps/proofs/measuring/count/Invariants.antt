use Rattle.std.proofs.Common.{◌≡◌, ◌≤◌, ◌*◌}
use Rattle.dvg_dumps.specs.Front.{measured, sum_below}
use Rattle.dvg_dumps.proofs.measuring.count.Given as goal

abbrev pub invariant-loop-at : goal.invariant-loop-at
invariant-loop-at l = record {
  value : l.counted ≡ sum_below (measured l.measure l.good l.other) l.at;
  few : l.counted ≤ 8 * l.at;
}
