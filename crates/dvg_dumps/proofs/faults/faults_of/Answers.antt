use Rattle.std.proofs.Common.{◌∙◌, ◌≡◌, subst, IfOk}
use Rattle.std.specs.List.{filter}
use Rattle.dvg_dumps.specs.Faults.{explains}
use Rattle.dvg_dumps.proofs.faults.faults_of.Goals as goal

pub returns : goal.returns
returns c =
    subst (λ faults. IfOk c.explaining.result (λ found. found.items ≡ filter (λ f. explains f c.args.good.now c.args.other.now) faults))
    (c.deref.ensures.value ∙ c.in_ok-tried.ensures) c.explaining.ensures
