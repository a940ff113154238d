use Rattle.dvg_recipe.proofs.Common.{◌∙◌, sym, subst}
use Rattle.dvg_items.specs.declared.item.Item.{Item}
use Rattle.dvg_clocks.specs.Kept.{clocks_in}
use Rattle.dvg_recipe.specs.Recipes.{Fixed, Takes}
use Rattle.dvg_recipe.specs.Private.Clocks.{AreAlike}
use Rattle.dvg_recipe.proofs.Spending.{on_fewer, same_alike, on_ok_then}
use Rattle.dvg_recipe.proofs.clocks.add_fixed.Goals as goal

pub returns-in-Holds-clause-past : goal.returns-in-Holds-clause-past
returns-in-Holds-clause-past g c =
    on_ok_then c.add_item.result _ _
    (λ past. on_fewer c.args.counting.now.timing.now.states (g.E.Entries.list c.args.counting.now.entries.now)
    (clocks_in c.args.counting.now.shapes.now) (AreAlike c.args.counting.now.timing.now.states c.somewhere.result)
    (λ i. Takes (Fixed c.args.words.0 c.args.words.1) i.format i.instr) c.args.here.now c.add_item.new.next
    (λ i is. subst (λ (j : Item). AreAlike c.args.counting.now.timing.now.states j i) (sym c.somewhere.ensures)
    (same_alike c.args.counting.now.timing.now.states 0 c.in-Holds.format c.in-Holds.instr i
    (sym c.in-Holds.is ∙ c.cell_of_words.ensures.value ∙ is))) past)
    c.add_item.ensures.past
