use Rattle.std.proofs.Common.{◌≡◌, ◌++◌, map, take}
use Rattle.dvg_dumps.specs.Candidates.{inverted_fault}
use Rattle.dvg_dumps.proofs.tried.add_inverted.Given as goal

abbrev pub invariant-loop-line : goal.invariant-loop-line
invariant-loop-line l = l.all.items ≡ l.fn.all.items ++ map inverted_fault (take l.line-index l.lines)
