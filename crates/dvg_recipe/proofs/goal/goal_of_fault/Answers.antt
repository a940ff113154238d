use Rattle.dvg_recipe.proofs.Leads.{near_most}
use Rattle.dvg_recipe.proofs.goal.goal_of_fault.Goals as goal

pub side_leaving-number-requires-clause-places : goal.side_leaving-number-requires-clause-places
side_leaving-number-requires-clause-places c = near_most _ c.hull.invariant
