use Rattle.std.proofs.Common.{◌≡◌, take}
use Rattle.std.specs.List.{filter}
use Rattle.dvg_dumps.specs.Faults.{explains}
use Rattle.dvg_dumps.proofs.faults.explaining.Given as goal

abbrev pub invariant-loop-fault : goal.invariant-loop-fault
invariant-loop-fault l = l.found.items ≡ filter (λ f. explains f l.good l.other) (take l.fault-index l.faults)
