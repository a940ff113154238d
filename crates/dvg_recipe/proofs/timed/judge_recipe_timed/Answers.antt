use Rattle.std.proofs.lemmas.Result.{IfOk-at_ok}
use Rattle.dvg_recipe.proofs.timed.judge_recipe_timed.Goals as goal

pub returns-in-Ok-clause-take : goal.returns-in-Ok-clause-take
returns-in-Ok-clause-take c = IfOk-at_ok _ c.in-Ok.is c.in_ok-counted.ensures.take
