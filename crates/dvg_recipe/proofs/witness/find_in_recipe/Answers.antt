use Rattle.dvg_recipe.proofs.Common.{List, subst, Contains}
use Rattle.dvg_recipe.specs.Limits.{MOST_LEVELS, MOST_NESTED}
use Rattle.dvg_recipe.specs.Recipes.{Jump}
use Rattle.dvg_recipe.proofs.witness.find_in_recipe.Goals as goal

pub find_in_jumps-requires : goal.find_in_jumps-requires
find_in_jumps-requires g c = record {
  fits = record {
    each = λ jump there. (
      MOST_LEVELS,
      MOST_NESTED,
      c.jumps-2.ensures.fits jump (subst (λ (l : List Jump). Contains l jump) c.jumps-2.ensures.value there),
    );
  };
}
