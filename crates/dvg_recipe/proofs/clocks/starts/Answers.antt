use Rattle.dvg_recipe.proofs.Common.{◌<◌, ◌+◌, length, arith}
use Rattle.dvg_clocks.specs.Kept.{clocks_in}
use Rattle.dvg_recipe.proofs.Spending.{starts_more}
use Rattle.dvg_recipe.proofs.clocks.starts.Goals as goal

pub loop-area-preserved : goal.loop-area-preserved
loop-area-preserved g c =
    let lt : c.loop-area.area-index < length c.args.lists.now = omega (arith, c.loop-area-test.true) in
    starts_more c.args.counting.now.timing.now.states (g.E.Entries.list c.args.counting.now.entries.now)
    (clocks_in c.args.counting.now.shapes.now) c.args.lists.now c.loop-area.area-index (c.loop-area.area-index + 1)
    (record { first = 0; last = 0 }) c.loop-area.here c.in_ok-starts_in.field-0 c.add_all.new.self (omega arith) lt
    c.loop-area.invariant c.add_all.ensures.kept c.in_ok-starts_in.ensures c.add_all.ensures.added
