use Rattle.std.proofs.Common.{◌≡◌, ◌++◌, map, take}
use Rattle.dvg_dumps.specs.Candidates.{crossed_fault}
use Rattle.dvg_dumps.proofs.tried.add_crossed.Given as goal

abbrev pub invariant-loop-pair : goal.invariant-loop-pair
invariant-loop-pair l = l.faults.items ≡ l.fn.faults.items ++ map crossed_fault (take l.pair-index l.pairs)
