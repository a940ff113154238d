use Rattle.dvg_text.proofs.DigitLanes.{lanes}
use Rattle.dvg_text.proofs.eight_digits.leading_digits.Goals as goal

pub returns : goal.returns
returns c = let l = lanes c.args.bytes.now c.first_lane.result c.told-bytes (λ k. c.fits-bytes k) c.first_lane.ensures in
    record { few = l.0; digits = l.1.0; end = λ short. l.1.1 }
