use Rattle.std.proofs.Common.{◌≡◌, ◌++◌, take}
use Rattle.std.specs.List.{flat_map}
use Rattle.dvg_dumps.specs.Candidates.{stuck_faults}
use Rattle.dvg_dumps.proofs.tried.add_stuck.Given as goal

abbrev pub invariant-loop-line : goal.invariant-loop-line
invariant-loop-line l = l.faults.items ≡ l.fn.faults.items ++ flat_map stuck_faults (take l.line-index l.lines)
