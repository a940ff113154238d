use Rattle.dvg_recipe.proofs.Common.{◌∙◌, Some, ap, subst, sym}
use Rattle.dvg_recipe.specs.Private.Hulls.{Rectangle, IsNearInto, into_of}
use Rattle.dvg_recipe.proofs.Doing.{span_near}
use Rattle.dvg_recipe.proofs.changes.into_of.Goals as goal

pub returns-in-Some-clause-near : goal.returns-in-Some-clause-near
returns-in-Some-clause-near c =
    subst IsNearInto (ap into_of c.in-Some.is ∙ ap (λ (r : Rectangle). Some r) (sym c.span_places.ensures))
    (span_near c.args.range.now.format c.args.range.now.to c.requires.to)
