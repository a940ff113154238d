use Rattle.dvg_clocks.specs.Kept.{clocks_in}
use Rattle.dvg_recipe.proofs.Spending.{lists_under}
use Rattle.dvg_recipe.proofs.clocks.most_of_lists.Goals as goal

pub returns-in-Some-clause-lists : goal.returns-in-Some-clause-lists
returns-in-Some-clause-lists g c =
    lists_under c.args.counting.now.timing.now.states (g.E.Entries.list c.args.counting.now.entries.now)
    (clocks_in c.args.counting.now.shapes.now) c.args.recipe.now c.in_ok-past_lists.field-0 c.greatest-before.result c.in-Some.clocks
    c.in_ok-past_lists.ensures c.greatest-before.ensures (rw (c.somewhere-halt.ensures) at c.in-Some.ensures.0)
