use Rattle.std.proofs.Common.{◌≡◌, ◌++◌, map, take}
use Rattle.dvg_dumps.specs.Candidates.{address_fault, line_faults}
use Rattle.dvg_dumps.proofs.tried.add_line_faults.Given as goal

abbrev pub invariant-loop-fault : goal.invariant-loop-fault
invariant-loop-fault l = l.all.items ≡ l.fn.all.items ++ map address_fault (take l.fault-index (line_faults l.lines))
