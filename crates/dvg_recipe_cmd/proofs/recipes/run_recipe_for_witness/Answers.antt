use Rattle.dvg_recipe_cmd.proofs.RecipeLines.{one_told}
use Rattle.dvg_recipe_cmd.proofs.recipes.run_recipe_for_witness.Goals as goal

pub returns-in-None-clause-report : goal.returns-in-None-clause-report
returns-in-None-clause-report g c =
    one_told _ c.args.recipe _ _ c.no_recipe-progress.result c.tell.new.progress _ _ c.no_recipe-progress.ensures c.in_ok-tell.ensures.ok

pub returns-in_ok-write_bytes-in-Some-clause-report : goal.returns-in_ok-write_bytes-in-Some-clause-report
returns-in_ok-write_bytes-in-Some-clause-report g c =
    one_told _ c.args.recipe _ _ c.no_recipe-progress.result c.tell.new.progress _ _ c.no_recipe-progress.ensures c.in_ok-tell.ensures.ok
