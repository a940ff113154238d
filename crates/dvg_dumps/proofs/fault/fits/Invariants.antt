use Rattle.std.proofs.Common.{◌≡◌, true}
use Rattle.dvg_dumps.specs.Front.{all_below}
use Rattle.dvg_dumps.specs.Faults.{fits_at}
use Rattle.dvg_dumps.proofs.fault.fits.Given as goal

abbrev pub invariant-loop-at : goal.invariant-loop-at
invariant-loop-at l = all_below (fits_at l.fault l.good l.other) l.at ≡ true
