use Rattle.dvg_recipe.proofs.Common.{arith}
use Rattle.dvg_clocks.specs.Kept.{clocks_in}
use Rattle.dvg_recipe.proofs.PastParts.{if_ok_on}
use Rattle.dvg_recipe.proofs.Spending.{starts_here, starts_there}
use Rattle.dvg_recipe.proofs.clocks.starts_in.Goals as goal

pub returns-then-area-eq0 : goal.returns-then-area-eq0
returns-then-area-eq0 g c =
    starts_here c.args.counting.now.timing.now.states (g.E.Entries.list c.args.counting.now.entries.now)
    (clocks_in c.args.counting.now.shapes.now) c.args.area.now c.add.new.self (omega (arith, c.if-area-eq0.true)) c.add.ensures.added

pub returns : goal.returns
returns g c =
    if_ok_on c.past_jump.result _ _
    (λ there h. starts_there c.args.counting.now.timing.now.states (g.E.Entries.list c.args.counting.now.entries.now)
    (clocks_in c.args.counting.now.shapes.now) c.args.area.now c.add.new.self there (λ is. c.if-area-eq0.false is) c.add.ensures.added h)
    c.past_jump.ensures
