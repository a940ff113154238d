use Rattle.dvg_cmd.proofs.LineByLine.{on_err}
use Rattle.dvg_recipe_cmd.proofs.recipes.run_recipes.Goals as goal

pub returns-in_err-run_each-clause-prefix : goal.returns-in_err-run_each-clause-prefix
returns-in_err-run_each-clause-prefix g c = on_err c.from_residual.result (rw c.of.ensures at c.in_err-run_each.ensures.prefix)

pub returns-clause-report : goal.returns-clause-report
returns-clause-report g c = rw c.of.ensures at c.in_ok-run_each.ensures.report
