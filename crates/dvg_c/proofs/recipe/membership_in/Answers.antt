use Rattle.std.proofs.lemmas.Result.{err_from_is_err_and}
use Rattle.dvg_c.proofs.recipe.membership_in.Goals as goal

pub returns : goal.returns
returns c =
    let ok = c.in_ok-read.ensures.ok in
    (c.read_recipe-recipe.result, c.in_ok-read.read.now, ok.0, rw ok.1 at c.membership_of-membership.ensures.membership)

pub returns-in_err-read : goal.returns-in_err-read
returns-in_err-read c =
    let p = err_from_is_err_and c.from_residual.result c.from_residual.ensures.1 in
    rw (p.1, p.2) (c.read_recipe-recipe.result, c.in_err-read.ensures.err)
