use Rattle.std.proofs.Common.{◌≡◌, ◌++◌, take}
use Rattle.std.specs.List.{flat_map}
use Rattle.dvg_dumps.specs.Candidates.{pair_of}
use Rattle.dvg_dumps.proofs.tried.add_pairs.Given as goal

abbrev pub invariant-loop-other : goal.invariant-loop-other
invariant-loop-other l = l.pairs.items ≡ l.fn.pairs.items ++ flat_map (pair_of l.one) (take l.other-index l.lines)
