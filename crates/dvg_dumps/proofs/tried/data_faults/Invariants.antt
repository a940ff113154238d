use Rattle.std.proofs.Common.{◌≡◌, map, take}
use Rattle.dvg_dumps.specs.Candidates.{data_fault, data_lines, line_faults}
use Rattle.dvg_dumps.proofs.tried.data_faults.Given as goal

abbrev pub invariant-loop-fault : goal.invariant-loop-fault
invariant-loop-fault l = l.all.items ≡ map data_fault (take l.fault-index (line_faults data_lines))
