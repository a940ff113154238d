use Rattle.dvg_recipe.proofs.Common.{List, subst, Contains}
use Rattle.dvg_recipe.specs.Limits.{MOST_LEVELS, MOST_NESTED}
use Rattle.dvg_recipe.specs.Recipes.{Jump}
use Rattle.dvg_recipe.proofs.roots.recipe_past.Goals as goal

pub jumps_past-requires : goal.jumps_past-requires
jumps_past-requires c =
    record {
      fits = record {
        each =
            λ jump there. (
              MOST_LEVELS,
              MOST_NESTED,
              c.jumps.ensures.fits jump (subst (λ (l : List Jump). Contains l jump) c.jumps.ensures.value there),
            );
      };
    }
