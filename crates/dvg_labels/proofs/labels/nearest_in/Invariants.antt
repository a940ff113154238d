use Rattle.dvg_labels.proofs.Common.{map, take, named_of, IsNearest}
use Rattle.dvg_labels.proofs.labels.nearest_in.Given as goal

abbrev pub invariant-loop-label : goal.invariant-loop-label
invariant-loop-label l = IsNearest (map named_of (take l.label-index l.labels)) l.at l.best
