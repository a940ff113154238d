use Rattle.std.proofs.Common.{◌≡◌, take}
use Rattle.std.specs.List.{flat_map}
use Rattle.dvg_dumps.specs.Candidates.{pair_of}
use Rattle.dvg_dumps.proofs.tried.pairs.Given as goal

abbrev pub invariant-loop-one : goal.invariant-loop-one
invariant-loop-one l = l.found.items ≡ flat_map (λ one. flat_map (pair_of one) l.lines) (take l.one-index l.lines)
