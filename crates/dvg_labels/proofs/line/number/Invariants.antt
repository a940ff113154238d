use Rattle.dvg_labels.proofs.Common.{◌≡◌, ◌≤◌, drop, number_behind, MOST_VALUE}
use Rattle.dvg_labels.proofs.line.number.Given as goal

abbrev pub invariant-loop-digit : goal.invariant-loop-digit
invariant-loop-digit l = record {
  read : number_behind l.value (drop l.digit-index l.digits) ≡ number_behind 0 l.digits;
  within : l.value ≤ MOST_VALUE;
}
