use Rattle.dvg_recipe.proofs.Common.{refl, arith, zero}
use Rattle.dvg_recipe.proofs.judge.first_hull.Goals as goal

pub returns : goal.returns
returns c =
    record {
      first = record {
        hull = _;
        listed = (zero, omega arith, refl);
        inside =
            record { scale = refl; place = tt; words = omega arith; depth = omega arith };
      };
    }
