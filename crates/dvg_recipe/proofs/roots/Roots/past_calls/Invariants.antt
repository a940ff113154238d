use Rattle.dvg_check.specs.Passing.{set_number}
use Rattle.dvg_recipe.proofs.roots.Roots.past_calls.Given as goal

abbrev pub decreases-loop-scale : goal.decreases-loop-scale
decreases-loop-scale l = set_number l.left
