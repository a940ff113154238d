use Rattle.dvg_recipe.proofs.Common.{◌<◌, ◌+◌, length, arith, sym, subst, take_all, Contains, List}
use Rattle.dvg_recipe.specs.Private.Hulls.{Hull}
use Rattle.dvg_recipe.proofs.Onward.{counts_next}
use Rattle.dvg_recipe.proofs.judge.counts.Goals as goal

pub loop-hull-preserved : goal.loop-hull-preserved
loop-hull-preserved c =
    let lt : c.loop-hull.hull-index < length c.args.here.now = omega (arith, c.loop-hull-test.true) in
    counts_next c.args.here.now c.loop-hull.hull-index (c.loop-hull.hull-index + 1) c.hull-item.result c.loop-hull.yes.words c.loop-hull.yes.depth
    c.counted-yes.result.words c.counted-yes.result.depth (omega arith) lt c.hull-item.is c.counted-yes.ensures.more.0 c.counted-yes.ensures.more.1
    c.counted-yes.ensures.counted c.loop-hull.invariant

pub returns : goal.returns
returns c = λ h there. c.loop-hull.invariant h
    (subst (λ (l : List Hull). Contains l h)
    (sym (take_all c.loop-hull.hull-index c.args.here.now (omega (arith, c.loop-hull-test.false)))) there)
