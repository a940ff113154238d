use Rattle.std.proofs.Common.{arith}
use Rattle.std.proofs.lemmas.Grind.{common_steps}
use Rattle.dvg_dumps.proofs.Below.{one_true}
use Rattle.dvg_dumps.specs.Front.{front}
use Rattle.dvg_dumps.specs.Faults.{is_known_difference}
use Rattle.dvg_dumps.proofs.fault.knows_a_difference.Goals as goal

pub returns-then-is_known_difference : goal.returns-then-is_known_difference
returns-then-is_known_difference c =
    grind (
      arith,
      common_steps,
      (one_true (is_known_difference c.args.fault c.args.good.now c.args.other.now)
          (front c.args.good.now c.args.other.now) c.loop-at.at),
    )
