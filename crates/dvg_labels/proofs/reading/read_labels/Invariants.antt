use Rattle.dvg_labels.proofs.Common.{◌+◌, ◌≤◌, left}
use Rattle.dvg_labels.specs.Limits.{MOST_BYTES}
use Rattle.dvg_labels.proofs.Progress.{Progress}
use Rattle.dvg_labels.proofs.reading.read_labels.Given as goal

abbrev pub invariant-loop-rest : goal.invariant-loop-rest
invariant-loop-rest l = record {
  progress : Progress l.text l.rest l.labels l.line;
  few : l.line + left l.rest ≤ MOST_BYTES + 1;
}

abbrev pub decreases-loop-rest : goal.decreases-loop-rest
decreases-loop-rest l = left l.rest
