use Rattle.dvg_cmd.proofs.Common.{inr}
use Rattle.dvg_cmd.proofs.LineByLine.{on_err}
use Rattle.dvg_recipe_cmd.proofs.frames.run_belongs.Goals as goal

pub returns-in_ok-run_each-in-Ok-clause-report : goal.returns-in_ok-run_each-in-Ok-clause-report
returns-in_ok-run_each-in-Ok-clause-report g c =
    inr (c.in-Ok.read.now, c.in-Ok.ensures.ok.0, (rw c.in-Ok.ensures.ok.1 at c.in_ok-run_each-in-Ok.ensures.report))

pub returns-in_err-run_each-in-Ok-clause-prefix : goal.returns-in_err-run_each-in-Ok-clause-prefix
returns-in_err-run_each-in-Ok-clause-prefix g c =
    on_err c.from_residual.result
    (inr (c.in-Ok.read.now, c.in-Ok.ensures.ok.0, (rw c.in-Ok.ensures.ok.1 at c.in_err-run_each-in-Ok.ensures.prefix)))
