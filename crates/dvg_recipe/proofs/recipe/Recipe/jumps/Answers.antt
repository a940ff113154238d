use Rattle.dvg_recipe.proofs.Common.{subst, Contains}
use Rattle.dvg_recipe.specs.Limits.{PartFits, MOST_LEVELS, MOST_NESTED}
use Rattle.dvg_recipe.specs.Recipes.{Recipe, Jump}
use Rattle.dvg_recipe.proofs.Onward.{jumps_within}
use Rattle.dvg_recipe.proofs.recipe.Recipe.jumps.Goals as goal

pub returns-clause-fits : goal.returns-clause-fits
returns-clause-fits c =
    subst (λ (r : Recipe). (jump : Jump) → Contains r.jumps jump → PartFits MOST_LEVELS MOST_NESTED jump.body) c.self.view_is
    (λ jump there. jumps_within _ _ _ _ c.self.invariant.jumps jump there)
