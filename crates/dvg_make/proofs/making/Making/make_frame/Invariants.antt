use Rattle.dvg_make.proofs.Common.{◌-◌, IsRightFor}
use Rattle.dvg_make.proofs.Framing.{FrameWalk}
use Rattle.dvg_make.proofs.making.Making.make_frame.Given as goal

abbrev pub invariant-loop-format : goal.invariant-loop-format
invariant-loop-format l =
    record {
      right : IsRightFor l.rom l.self;
      partial : FrameWalk l.rom l.frame l.fn.self.done l.self.done l.at l.scale;
    }

abbrev pub decreases-loop-format : goal.decreases-loop-format
decreases-loop-format l = 5000 - l.at
