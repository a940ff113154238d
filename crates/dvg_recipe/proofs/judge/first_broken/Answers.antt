use Rattle.dvg_recipe.proofs.Leads.{near_most}
use Rattle.dvg_recipe.proofs.judge.first_broken.Goals as goal

pub light_broken-requires-clause-places : goal.light_broken-requires-clause-places
light_broken-requires-clause-places c = near_most _ c.hull.invariant
