use Rattle.dvg_labels.proofs.Common.{map, take, named_of, IsFound}
use Rattle.dvg_labels.proofs.labels.address_in.Given as goal

abbrev pub invariant-loop-label : goal.invariant-loop-label
invariant-loop-label l = IsFound (map named_of (take l.label-index l.labels)) l.name l.found
