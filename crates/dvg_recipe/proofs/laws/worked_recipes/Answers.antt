use Rattle.dvg_recipe.proofs.ColumnExample.{column_accepted}
use Rattle.dvg_recipe.proofs.BeyondExample.{beyond_refused}
use Rattle.dvg_recipe.proofs.laws.worked_recipes.Goals as goal

pub returns : goal.returns
returns c = record { accepted = column_accepted; refused = beyond_refused }
