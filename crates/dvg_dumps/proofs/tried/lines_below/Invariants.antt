use Rattle.std.proofs.Common.{◌≡◌, take, nat_lt}
use Rattle.std.specs.List.{filter}
use Rattle.dvg_dumps.specs.Candidates.{address_lines}
use Rattle.dvg_dumps.proofs.tried.lines_below.Given as goal

abbrev pub invariant-loop-line : goal.invariant-loop-line
invariant-loop-line l = l.below.items ≡ filter (λ line. nat_lt line l.bytes) (take l.line-index address_lines)
