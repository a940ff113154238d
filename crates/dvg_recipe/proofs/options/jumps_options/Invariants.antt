use Rattle.std.specs.List.{sum_by}
use Rattle.dvg_recipe.proofs.Common.{◌≡◌, take}
use Rattle.std.specs.Prelude.{min}
use Rattle.dvg_recipe.specs.Recipes.{Jump}
use Rattle.dvg_recipe.specs.Limits.{options}
use Rattle.dvg_recipe.specs.declared.options.TheConstants.{MOST_COUNTED}
use Rattle.dvg_recipe.proofs.options.jumps_options.Given as goal

abbrev pub invariant-loop-jump : goal.invariant-loop-jump
invariant-loop-jump l = l.all ≡ min (sum_by (λ (jump : Jump). options 1 jump.body) (take l.jump-index l.jumps)) MOST_COUNTED
