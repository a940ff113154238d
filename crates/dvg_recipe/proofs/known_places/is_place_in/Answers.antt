use Rattle.dvg_recipe.proofs.Common.{arith, rules}
use Rattle.dvg_check.proofs.Common.{ints}
use Rattle.dvg_recipe.proofs.known_places.is_place_in.Goals as goal

pub returns-then-in_units-z : goal.returns-then-in_units-z
returns-then-in_units-z c = (
  λ t. record {
    low = omega (arith, ints, c.in_units.ensures, c.if-in_units-z.true);
    high =
        omega (arith, ints, c.in_units-then-in_units-z.ensures, t);
  },
  λ h. search (rules, h.high, c.in_units-then-in_units-z.ensures),
)
