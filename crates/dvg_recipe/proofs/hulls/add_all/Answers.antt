use Rattle.dvg_recipe.proofs.Common.{arith, length, ◌<◌, ◌+◌}
use Rattle.dvg_recipe.proofs.Sounds.{under_same, under_on, under_none, under_next, under_whole}
use Rattle.dvg_recipe.proofs.hulls.add_all.Goals as goal

pub loop-hull-init : goal.loop-hull-init
loop-hull-init c = (under_same c.args.hulls.now.items, under_none c.args.more.now c.args.hulls.now.items)

pub loop-hull-preserved : goal.loop-hull-preserved
loop-hull-preserved c =
    let e = c.in_ok-add.ensures in
    let lt : c.loop-hull.hull-index < length c.args.more.now = omega (arith, c.loop-hull-test.true) in (
      under_on _ _ _ c.loop-hull.invariant.0 e.kept,
      under_next c.args.more.now _ c.loop-hull.hull-index (c.loop-hull.hull-index + 1) c.hull-item.result (omega arith) lt c.hull-item.is
          (under_on _ _ _ c.loop-hull.invariant.1 e.kept) e.added,
    )

pub returns-clause-added : goal.returns-clause-added
returns-clause-added c =
    under_whole c.args.more.now c.loop-hull.hulls.items c.loop-hull.hull-index (omega (arith, c.loop-hull-test.false))
    c.loop-hull.invariant.1
