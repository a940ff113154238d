use Rattle.dvg_text.proofs.Common.{◌≡◌, take}
use Rattle.dvg_text.proofs.nearest.common.Given as goal

abbrev pub invariant-loop-at : goal.invariant-loop-at
invariant-loop-at l = take l.at l.a ≡ take l.at l.b
