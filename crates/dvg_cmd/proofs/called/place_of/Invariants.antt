use Rattle.dvg_cmd.proofs.Common.{◌≡◌, ◌+◌, drop}
use Rattle.dvg_cmd.specs.Called.{place_in}
use Rattle.dvg_cmd.proofs.called.place_of.Given as goal

abbrev pub invariant-loop-at : goal.invariant-loop-at
invariant-loop-at l = l.at + place_in (drop l.at l.counts) l.number l.shape ≡ place_in l.counts l.number l.shape
