use Rattle.dvg_recipe.proofs.Common.{◌<◌, ◌+◌, length, List, arith, subst}
use Rattle.dvg_recipe.specs.Private.Hulls.{Hull, AreUnder}
use Rattle.dvg_recipe.proofs.Onward.{starts_more, starts_whole}
use Rattle.dvg_recipe.proofs.judge.starts.Goals as goal

pub loop-area-preserved : goal.loop-area-preserved
loop-area-preserved c =
    let w = c.args.asked.now.window in
    let budget = c.args.asked.now.budget in
    let there = c.in_ok-more.more.items in
    let all = c.add_all.new.hulls.items in
    let e = c.in_ok-add_all.ensures in
    let added : AreUnder there all = subst (λ (l : List Hull). AreUnder l all) c.deref.ensures.value e.added in
    let lt : c.loop-area.area-index < length c.args.lists.now = omega (arith, c.loop-area-test.true) in
    λ fine. let more = c.in_ok-more.ensures.starts fine in
    let before = c.loop-area.invariant more.0 in (
      before.0,
      λ list. starts_more w list budget c.args.lists.now c.loop-area.area-index (c.loop-area.area-index + 1)
          (record { first = 0; last = 0 }) c.loop-area.here.items there all (omega arith) lt (before.1 list) e.kept (more.1 list)
          added,
    )

pub returns : goal.returns
returns c = record {
  starts = λ fine. let before = c.loop-area.invariant fine in (
    before.0,
    λ list. starts_whole c.args.asked.now.window list c.args.asked.now.budget c.args.lists.now c.loop-area.here.items
        c.loop-area.area-index (omega (arith, c.loop-area-test.false)) (before.1 list),
  );
}
