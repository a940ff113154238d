use Rattle.dvg_recipe.proofs.Common.{sym, subst}
use Rattle.dvg_items.specs.declared.item.Item.{Item}
use Rattle.dvg_clocks.specs.Kept.{clocks_in}
use Rattle.dvg_recipe.specs.Private.Clocks.{AreAlike}
use Rattle.dvg_recipe.proofs.Spending.{on_fewer, jumps_alike}
use Rattle.dvg_recipe.proofs.clocks.past_jump.Goals as goal

pub returns : goal.returns
returns g c =
    on_fewer c.args.counting.now.timing.now.states (g.E.Entries.list c.args.counting.now.entries.now)
    (clocks_in c.args.counting.now.shapes.now) (AreAlike c.args.counting.now.timing.now.states c.somewhere-jump.result) _
    c.args.here.now c.add_item.new.next
    (λ i jump. subst (λ (j : Item). AreAlike c.args.counting.now.timing.now.states j i) (sym c.somewhere-jump.ensures)
    (jumps_alike c.args.counting.now.timing.now.states _ i 0 jump.0 jump.1))
    c.in_ok-add_item.ensures.past
