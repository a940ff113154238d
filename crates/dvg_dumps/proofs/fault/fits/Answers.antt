use Rattle.std.proofs.Common.{arith}
use Rattle.std.proofs.lemmas.Grind.{common_steps}
use Rattle.dvg_dumps.proofs.Below.{one_false}
use Rattle.dvg_dumps.specs.Front.{front}
use Rattle.dvg_dumps.specs.Faults.{fits_at}
use Rattle.dvg_dumps.proofs.fault.fits.Goals as goal

pub returns-then-not-fits_at : goal.returns-then-not-fits_at
returns-then-not-fits_at c =
    grind (
      arith,
      common_steps,
      (one_false (fits_at c.args.fault c.args.good.now c.args.other.now)
          (front c.args.good.now c.args.other.now) c.loop-at.at),
    )
