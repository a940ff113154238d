use Rattle.dvg_recipe.proofs.Common.{◌≡◌, ◌∙◌, ap, List, ℕ, Contains, length, Bool, false, IsTrue, subst, sym, arith, nat_tests}
use Rattle.dvg_items.specs.declared.item.Item.{Item}
use Rattle.dvg_recipe.specs.Private.KnownPlaces.{ItemsOver}
use Rattle.dvg_recipe.specs.Private.Indices.{AreThose, RecipeLeads}
use Rattle.dvg_recipe.proofs.Frames.{belongs_if, only_if}
use Rattle.dvg_recipe.proofs.belonging.belongs.Goals as goal

not_both : (b : Bool) → b ≡ false → IsTrue b → ⊥
not_both b is not = grind (arith, nat_tests)

pub returns-then-has_end-clause-none : goal.returns-then-has_end-clause-none
returns-then-has_end-clause-none c =
    let all = c.in_ok-all.all in
    let end = c.has_end.ensures.0 c.if-has_end.true in
    let those = subst (λ (o : ItemsOver). AreThose (RecipeLeads c.args.recipe.now o) c.in_ok-here.here.items)
    (c.in_ok-places.ensures ∙ ap (λ (l : List Item). record { rom = c.args.rom.now; items = l }) c.deref.ensures.value)
    c.in_ok-here.ensures in
    let there = subst (λ (l : List ℕ). Contains l (length all.items.items)) c.deref-2.ensures.value end.1 in
    belongs_if c.args.rom.now c.args.frame.now all c.in_ok-all.ensures.items c.args.recipe.now c.prove_whole.ensures end.0
    ((those.each (length all.items.items)).0 there)

pub returns-clause-some : goal.returns-clause-some
returns-clause-some c b =
    let all = c.in_ok-all.all in
    let those = subst (λ (o : ItemsOver). AreThose (RecipeLeads c.args.recipe.now o) c.in_ok-here.here.items)
    (c.in_ok-places.ensures ∙ ap (λ (l : List Item). record { rom = c.args.rom.now; items = l }) c.deref.ensures.value)
    c.in_ok-here.ensures in
    let only = only_if c.args.rom.now c.args.frame.now all c.in_ok-all.ensures.items c.args.recipe.now b in
    let there = subst (λ (l : List ℕ). Contains l (length all.items.items)) (sym c.deref-2.ensures.value)
    ((those.each (length all.items.items)).1 only.1) in
    not_both c.has_end.result c.if-has_end.false (c.has_end.ensures.1 (only.0, there))
