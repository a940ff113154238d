use Rattle.std.proofs.Common.{◌≡◌, true}
use Rattle.dvg_dumps.specs.Front.{all_below, level_if_different}
use Rattle.dvg_dumps.proofs.measuring.is_level_where_different.Given as goal

abbrev pub invariant-loop-at : goal.invariant-loop-at
invariant-loop-at l = all_below (level_if_different l.good l.other l.line l.level) l.at ≡ true
