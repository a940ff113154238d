use Rattle.std.proofs.Common.{Box, Vec, Global}
use Rattle.std.specs.Cmp.Lexicographic.{same_text}
use Rattle.dvg_recipe.proofs.Common.{◌≡◌, ◌+◌, ◌∙◌, ℕ, List, Contains, inr, refl, subst, sym, arith}
use Rattle.dvg_recipe.specs.Recipes.{Part, Row, Then', Either', Repeat'}
use Rattle.dvg_recipe.specs.Private.Indices.{Leads, IsPast, RowLeads, TimesOver, Turns, PartLeads}
use Rattle.dvg_recipe.proofs.Sets.{joined_with}
use Rattle.dvg_recipe.proofs.PastParts.{if_ok_on, part_to, past_from, past_to, past_same, past_both, past_either}
use Rattle.dvg_recipe.proofs.Turns.{turn_next, turns_same, turns_first, turns_more, turns_closed}
use Rattle.dvg_recipe.proofs.belonging.+past_part.Goals as goal

-- where a part of a part lies, of which nothing is asked
abbrev place_of : Box Part Global → Box (Unit {0}) Global
place_of box = record { ptr = box.ptr; alloc = box.alloc; value = tt }

-- a set that takes another's place
past_into : (R : Leads) (here : List ℕ) (next put : Vec ℕ Global) → put ≡ next → IsPast R here next.items → IsPast R here put.items
past_into R here next put is h = subst (λ (v : Vec ℕ Global). IsPast R here v.items) (sym is) h

pub past_part-returns-in-Row : goal.past_part-returns-in-Row
past_part-returns-in-Row t c =
    let here = c.args.here.now.items in
    let next = c.past_row.new.here.items in
    if_ok_on c.past_row.result _ _
    (λ _ h. part_to (Row c.in-Row.row) c.args.part.now c.args.places.now here next (sym c.in-Row.is)
    (subst (λ l. IsPast (RowLeads l c.args.places.now) here next) c.deref.ensures.value h))
    c.past_row.ensures

pub past_part-returns-in_ok-past_part-in-Then : goal.past_part-returns-in_ok-past_part-in-Then
past_part-returns-in_ok-past_part-in-Then t c =
    let a = c.in-Then.first in
    let b = c.in-Then.second in
    let here = c.args.here.now.items in
    let between = c.past_part.new.here.items in
    let next = c.past_part-in-Then.new.here.items in
    if_ok_on c.past_part-in-Then.result _ _
    (λ _ h. part_to (Then' (place_of a) a.value (place_of b) b.value) c.args.part.now c.args.places.now here next (sym c.in-Then.is)
    (past_both (PartLeads a.value c.args.places.now) (PartLeads b.value c.args.places.now) here between next
    (part_to _ a.value c.args.places.now here between c.deref-in-Then.ensures c.in_ok-past_part-in-Then.ensures)
    (part_to _ b.value c.args.places.now between next c.deref-in-Then-2.ensures h)))
    c.past_part-in-Then.ensures

pub past_part-returns-in_ok-add_all-in-Either : goal.past_part-returns-in_ok-add_all-in-Either
past_part-returns-in_ok-add_all-in-Either t c =
    let a = c.in-Either.one in
    let b = c.in-Either.other in
    let items = c.args.places.now in
    let here = c.args.here.now.items in
    let next = c.past_part-in-Either.new.here.items in
    let copy = c.set_to.new.set.items in
    let more = c.past_part-in-Either-2.new.here.items in
    let all = c.add_all.new.set.items in
    (part_to (Either' (place_of a) a.value (place_of b) b.value) c.args.part.now items here all (sym c.in-Either.is)
    (past_either (PartLeads a.value items) (PartLeads b.value items) here next more all
    (part_to _ a.value items here next c.deref-in-Either-2.ensures c.in_ok-past_part-in-Either.ensures)
    (past_from (PartLeads b.value items) copy here more (c.in_ok-set_to-in-Either.ensures ∙ c.deref-in-Either.ensures.value)
    (part_to _ b.value items copy more c.deref-in-Either-3.ensures c.in_ok-past_part-in-Either-2.ensures))
    (joined_with next _ more all c.deref-in-Either-4.ensures.value c.in_ok-add_all-in-Either.ensures.joined)))

pub past_part-returns-in-Repeat : goal.past_part-returns-in-Repeat
past_part-returns-in-Repeat t c =
    let least = c.in-Repeat.least in
    let most = c.in-Repeat.most in
    let body = c.in-Repeat.body in
    let items = c.args.places.now in
    let here = c.args.here.now.items in
    let next = c.past_repeat.new.here.items in
    if_ok_on c.past_repeat.result _ _
    (λ _ h. part_to (Repeat' least most (place_of body) body.value) c.args.part.now items here next (sym c.in-Repeat.is)
    (subst (λ (p : Part). IsPast (Turns least most (PartLeads p items)) here next) c.deref-in-Repeat.ensures h))
    c.past_repeat.ensures

pub past_repeat-loop-init : goal.past_repeat-loop-init
past_repeat-loop-init t c = past_same c.args.here.now.items

pub past_repeat-returns-then-eq : goal.past_repeat-returns-then-eq
past_repeat-returns-then-eq t c =
    let next = c.past_part.new.here.items in
    let is : next ≡ c.loop.here.items =
    same_text next c.set_to.new.set.items c.if-eq.ensures ∙ c.in_ok-set_to.ensures ∙ c.deref-in-loop.ensures.value in
    (turns_same (PartLeads c.args.body.now c.args.places.now) c.loop.counter c.args.least c.args.most c.args.here.now.items
    c.loop.here.items next (omega (arith, c.loop-test.true)) (omega (arith, c.if-most-least.false)) c.loop.invariant
    c.in_ok-past_part.ensures is)

pub past_repeat-loop-preserved : goal.past_repeat-loop-preserved
past_repeat-loop-preserved t c =
    turn_next (PartLeads c.args.body.now c.args.places.now) c.loop.counter (c.loop.counter + 1) c.args.here.now.items c.loop.here.items
    c.past_part.new.here.items (omega arith) c.loop.invariant c.in_ok-past_part.ensures

pub past_repeat-loop-2-init : goal.past_repeat-loop-2-init
past_repeat-loop-2-init t c =
    let R = PartLeads c.args.body.now c.args.places.now in
    let here : IsPast (TimesOver c.args.least R) c.args.here.now.items c.loop.here.items =
    subst (λ n. IsPast (TimesOver n R) c.args.here.now.items c.loop.here.items)
    (omega (arith, c.loop-test.false, c.loop.auto.counter-end)) c.loop.invariant in (
      here,
      turns_first R c.args.least c.args.here.now.items c.loop.here.items c.set_to-2.new.set.items
          (sym (c.in_ok-set_to-2.ensures ∙ c.deref-2.ensures.value)) here,
    )

pub past_repeat-returns-then-not-branch : goal.past_repeat-returns-then-not-branch
past_repeat-returns-then-not-branch t c =
    let R = PartLeads c.args.body.now c.args.places.now in
    let next = c.past_part-in-loop-2.new.here.items in
    let here = turn_next R c.loop-2.counter (c.loop-2.counter + 1) c.args.here.now.items c.loop-2.here.items next (omega arith)
    c.loop-2.invariant.0 c.in_ok-past_part-2.ensures in
    let same : c.add_all.new.set.items ≡ c.loop-2.next.items = c.in_ok-add_all.ensures.same c.if-not-branch.true in
    let join = joined_with c.loop-2.next.items _ next c.add_all.new.set.items c.deref-in-loop-2.ensures.value c.in_ok-add_all.ensures.joined in
    let known : (j : ℕ) → Contains next j → Contains c.loop-2.next.items j =
    λ j there. subst (λ (l : List ℕ). Contains l j) same ((join.each j).1 (inr there)) in
    past_into (Turns c.args.least c.args.most R) c.args.here.now.items c.add_all.new.set c.replace.new.dest c.replace.ensures.after
    (past_to (Turns c.args.least c.args.most R) c.args.here.now.items c.loop-2.next.items c.add_all.new.set.items (sym same)
    (turns_closed R c.args.least c.loop-2.counter (c.loop-2.counter + 1) c.args.here.now.items c.loop-2.next.items next (omega arith)
    (omega (arith, c.loop-2.auto.counter)) c.loop-2.invariant.1 here known c.args.most (omega (arith, c.loop-2-test.true))))

pub past_repeat-loop-2-preserved : goal.past_repeat-loop-2-preserved
past_repeat-loop-2-preserved t c =
    let R = PartLeads c.args.body.now c.args.places.now in
    let next = c.past_part-in-loop-2.new.here.items in
    let here = turn_next R c.loop-2.counter (c.loop-2.counter + 1) c.args.here.now.items c.loop-2.here.items next (omega arith)
    c.loop-2.invariant.0 c.in_ok-past_part-2.ensures in (
      here,
      turns_more R c.args.least c.loop-2.counter (c.loop-2.counter + 1) c.args.here.now.items c.loop-2.next.items next (omega arith)
          (omega (arith, c.loop-2.auto.counter)) c.loop-2.invariant.1 here c.add_all.new.set.items
          (joined_with c.loop-2.next.items _ next c.add_all.new.set.items c.deref-in-loop-2.ensures.value c.in_ok-add_all.ensures.joined),
    )

pub past_repeat-returns : goal.past_repeat-returns
past_repeat-returns t c =
    let R = PartLeads c.args.body.now c.args.places.now in
    past_into (Turns c.args.least c.args.most R) c.args.here.now.items c.loop-2.next c.replace-2.new.dest c.replace-2.ensures.after
    (subst (λ n. IsPast (Turns c.args.least n R) c.args.here.now.items c.loop-2.next.items)
    (omega (arith, c.loop-2-test.false, c.loop-2.auto.counter-end, c.if-most-least.false)) c.loop-2.invariant.1)
