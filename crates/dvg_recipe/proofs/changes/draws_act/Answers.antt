use Rattle.dvg_recipe.proofs.Common.{rules, Option, subst, sym}
use Rattle.dvg_recipe.specs.Private.Hulls.{Rectangle, DrawsAct, IsAct}
use Rattle.dvg_recipe.proofs.Doing.{draws_are, IsCorner}
use Rattle.dvg_recipe.proofs.changes.draws_act.Goals as goal

pub returns-clause-is : goal.returns-clause-is
returns-clause-is c list known i taken =
    let r = c.args.range.now in
    let low : IsCorner r r.dx.low r.dy.low r.bright.low c.corner.result =
    record { lscale = c.corner.ensures.lscale; dx = search rules; dy = search rules; bright = search rules } in
    let high : IsCorner r r.dx.high r.dy.high r.bright.high c.corner-2.result =
    record { lscale = c.corner-2.ensures.lscale; dx = search rules; dy = search rules; bright = search rules } in
    subst (λ (o : Option Rectangle). IsAct list (DrawsAct r.format c.corner.result c.corner-2.result o) known i)
    (sym c.into_of.ensures.value) (draws_are r c.corner.result c.corner-2.result low high list known i taken)
