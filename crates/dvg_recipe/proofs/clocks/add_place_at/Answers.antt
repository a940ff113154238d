use Rattle.dvg_recipe.proofs.Common.{sym, subst}
use Rattle.dvg_items.specs.declared.item.Item.{Item}
use Rattle.dvg_clocks.specs.Kept.{clocks_in}
use Rattle.dvg_recipe.specs.Private.Clocks.{AreAlike, IsLabsAt}
use Rattle.dvg_recipe.proofs.Spending.{on_fewer, labs_alike, on_ok_then}
use Rattle.dvg_recipe.proofs.clocks.add_place_at.Goals as goal

pub returns-clause-past : goal.returns-clause-past
returns-clause-past g c =
    on_ok_then c.add_item.result _ _
    (λ past there. on_fewer c.args.counting.now.timing.now.states (g.E.Entries.list c.args.counting.now.entries.now)
    (clocks_in c.args.counting.now.shapes.now) (AreAlike c.args.counting.now.timing.now.states c.somewhere.result)
    (λ i. IsLabsAt c.args.scale i.instr) c.args.here.now c.add_item.new.next
    (λ i is. subst (λ (j : Item). AreAlike c.args.counting.now.timing.now.states j i) (sym c.somewhere.ensures)
    (labs_alike c.args.counting.now.timing.now.states _ i c.args.scale is)) past)
    c.add_item.ensures.past
