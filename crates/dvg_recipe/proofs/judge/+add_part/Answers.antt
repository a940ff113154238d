use Rattle.std.proofs.Common.{Box, Global}
use Rattle.dvg_recipe.proofs.Common.{◌+◌, subst, sym, arith, List}
use Rattle.dvg_recipe.specs.Recipes.{Part, Row, Then', Either', Repeat', AddsRow, Spells}
use Rattle.dvg_recipe.specs.Private.Hulls.{Hull, AreUnder}
use Rattle.dvg_recipe.specs.Private.Judging.{Carries, TimesOver, Turns}
use Rattle.dvg_recipe.proofs.Sounds.{under_same, under_on}
use Rattle.dvg_recipe.proofs.PastParts.{if_ok_on, if_ok_both}
use Rattle.dvg_recipe.proofs.Onward.{part_as, from_as, then_both, either_one, times_none, one_turn, least_turns, more_turns}
use Rattle.dvg_recipe.proofs.judge.+add_part.Goals as goal

-- where a part of a part lies, of which nothing is asked
abbrev place_of : Box Part Global → Box (Unit {0}) Global
place_of box = record { ptr = box.ptr; alloc = box.alloc; value = tt }

pub add_part-returns-in-Row-clause-carries : goal.add_part-returns-in-Row-clause-carries
add_part-returns-in-Row-clause-carries g t c =
    let w = c.args.asked.now.window in
    let list = g.E.Entries.list c.args.entries.now in
    let budget = c.args.asked.now.budget in
    let here = c.args.here.now in
    let next = c.add_row.new.next.items in
    if_ok_on c.add_row.result _ _
    (λ u h fine. let x = h fine in (
      x.0,
      part_as w list budget (Row c.in-Row.row) c.args.part.now here next (sym c.in-Row.is)
          (subst (λ l. Carries w list budget (AddsRow l) here next) c.deref.ensures.value x.1),
    ))
    c.add_row.ensures.carries

pub add_part-returns-in_ok-add_part-in-Then-clause-carries : goal.add_part-returns-in_ok-add_part-in-Then-clause-carries
add_part-returns-in_ok-add_part-in-Then-clause-carries g t c =
    let w = c.args.asked.now.window in
    let list = g.E.Entries.list c.args.entries.now in
    let budget = c.args.asked.now.budget in
    let a = c.in-Then.first in
    let b = c.in-Then.second in
    let here = c.args.here.now in
    let between = c.add_part.new.next.items in
    let next = c.add_part-in-Then.new.next.items in
    if_ok_on c.add_part-in-Then.result _ _
    (λ u h fine. let y = h fine in
    let x = c.in_ok-add_part-in-Then.ensures.carries y.0 in (
      x.0,
      part_as w list budget (Then' (place_of a) a.value (place_of b) b.value) c.args.part.now here next (sym c.in-Then.is)
          (then_both w list budget a.value b.value here between next
          (part_as w list budget _ a.value here between c.deref-in-Then.ensures x.1)
          (from_as w list budget (Spells b.value) _ between next c.deref-in-Then-3.ensures.value
          (part_as w list budget _ b.value _ next c.deref-in-Then-2.ensures y.1))),
    ))
    c.add_part-in-Then.ensures.carries

pub add_part-returns-in_ok-add_part-in-Either-clause-carries : goal.add_part-returns-in_ok-add_part-in-Either-clause-carries
add_part-returns-in_ok-add_part-in-Either-clause-carries g t c =
    let w = c.args.asked.now.window in
    let list = g.E.Entries.list c.args.entries.now in
    let budget = c.args.asked.now.budget in
    let a = c.in-Either.one in
    let b = c.in-Either.other in
    let here = c.args.here.now in
    let ys = c.add_part-in-Either.new.next.items in
    let all = c.add_part-in-Either-2.new.next.items in
    if_ok_on c.add_part-in-Either-2.result _ _
    (λ u h fine. let y = h.0 fine in
    let x = c.in_ok-add_part-in-Either.ensures.carries y.0 in (
      x.0,
      part_as w list budget (Either' (place_of a) a.value (place_of b) b.value) c.args.part.now here all (sym c.in-Either.is)
          (either_one w list budget (Spells a.value) (Spells b.value) here ys all all h.1 (under_same all)
          (part_as w list budget _ a.value here ys c.deref-in-Either.ensures x.1)
          (part_as w list budget _ b.value here all c.deref-in-Either-2.ensures y.1)),
    ))
    (if_ok_both c.add_part-in-Either-2.result _ _ c.add_part-in-Either-2.ensures.carries c.add_part-in-Either-2.ensures.kept)

pub add_part-returns-in_ok-add_part-in-Either-clause-kept : goal.add_part-returns-in_ok-add_part-in-Either-clause-kept
add_part-returns-in_ok-add_part-in-Either-clause-kept g t c =
    if_ok_on c.add_part-in-Either-2.result _ _ (λ u h. under_on _ _ _ c.in_ok-add_part-in-Either.ensures.kept h)
    c.add_part-in-Either-2.ensures.kept

pub add_part-returns-in-Repeat-clause-carries : goal.add_part-returns-in-Repeat-clause-carries
add_part-returns-in-Repeat-clause-carries g t c =
    let w = c.args.asked.now.window in
    let list = g.E.Entries.list c.args.entries.now in
    let budget = c.args.asked.now.budget in
    let here = c.args.here.now in
    let next = c.add_repeat.new.next.items in
    let least = c.in-Repeat.least in
    let most = c.in-Repeat.most in
    let body = c.in-Repeat.body in
    if_ok_on c.add_repeat.result _ _
    (λ u h fine. let x = h fine in (
      x.0,
      part_as w list budget (Repeat' least most (place_of body) body.value) c.args.part.now here next (sym c.in-Repeat.is)
          (subst (λ (p : Part). Carries w list budget (Turns least most (Spells p)) here next) c.deref-in-Repeat.ensures x.1),
    ))
    c.add_repeat.ensures.carries

pub add_repeat-loop-init : goal.add_repeat-loop-init
add_repeat-loop-init g t c =
    let w = c.args.asked.now.window in
    let list = g.E.Entries.list c.args.entries.now in
    let budget = c.args.asked.now.budget in
    λ fine. (
      fine,
      times_none w list budget c.args.body.now c.args.here.now c.in_ok-there.there.items (sym c.in_ok-there.ensures.items),
    )

pub add_repeat-loop-preserved : goal.add_repeat-loop-preserved
add_repeat-loop-preserved g t c =
    let w = c.args.asked.now.window in
    let list = g.E.Entries.list c.args.entries.now in
    let budget = c.args.asked.now.budget in
    let R = Spells c.args.body.now in
    let behind = c.add_part.new.next.items in
    λ fine. let y = c.in_ok-add_part.ensures.carries fine in
    let x = c.loop.invariant y.0 in (
      x.0,
      one_turn w list budget c.args.body.now c.loop.counter (c.loop.counter + 1) c.args.here.now c.loop.there.items behind
          (omega arith) x.1 (from_as w list budget R _ c.loop.there.items behind c.deref.ensures.value y.1),
    )

pub add_repeat-loop-2-init : goal.add_repeat-loop-2-init
add_repeat-loop-2-init g t c =
    let w = c.args.asked.now.window in
    let list = g.E.Entries.list c.args.entries.now in
    let budget = c.args.asked.now.budget in
    let R = Spells c.args.body.now in
    let here = c.args.here.now in
    let e = c.in_ok-add_all.ensures in
    let all = c.add_all.new.hulls.items in (
      λ fine. let x = c.loop.invariant fine in
          let turns : Carries w list budget (TimesOver c.args.least R) here c.loop.there.items =
          subst (λ n. Carries w list budget (TimesOver n R) here c.loop.there.items)
          (omega (arith, c.loop-test.false, c.loop.auto.counter-end)) x.1 in (
            x.0,
            (
              turns,
              least_turns w list budget c.args.body.now c.args.least here c.loop.there.items all
                  (subst (λ (l : List Hull). AreUnder l all) c.deref-2.ensures.value e.added) turns,
            ),
          ),
      e.kept,
    )

pub add_repeat-loop-2-preserved : goal.add_repeat-loop-2-preserved
add_repeat-loop-2-preserved g t c =
    let w = c.args.asked.now.window in
    let list = g.E.Entries.list c.args.entries.now in
    let budget = c.args.asked.now.budget in
    let R = Spells c.args.body.now in
    let behind = c.add_part-in-loop-2.new.next.items in
    let all = c.add_all-in-loop-2.new.hulls.items in
    let e = c.in_ok-add_all-2.ensures in (
      λ fine. let y = c.in_ok-add_part-2.ensures.carries fine in
          let x = c.loop-2.invariant.0 y.0 in
          let turn = one_turn w list budget c.args.body.now c.loop-2.counter (c.loop-2.counter + 1) c.args.here.now c.loop-2.there.items
          behind (omega arith) x.1.0 (from_as w list budget R _ c.loop-2.there.items behind c.deref-in-loop-2.ensures.value y.1) in (
            x.0,
            (
              turn,
              more_turns w list budget c.args.body.now c.args.least c.loop-2.counter (c.loop-2.counter + 1) c.args.here.now
                  behind c.loop-2.next.items all (omega arith) x.1.1 turn e.kept
                  (subst (λ (l : List Hull). AreUnder l all) c.deref-in-loop-2-2.ensures.value e.added),
            ),
          ),
      under_on _ _ _ c.loop-2.invariant.1 e.kept,
    )

pub add_repeat-returns-clause-carries : goal.add_repeat-returns-clause-carries
add_repeat-returns-clause-carries g t c =
    let w = c.args.asked.now.window in
    let list = g.E.Entries.list c.args.entries.now in
    let budget = c.args.asked.now.budget in
    λ fine. let x = c.loop-2.invariant.0 fine in (
      x.0,
      subst (λ n. Carries w list budget (Turns c.args.least n (Spells c.args.body.now)) c.args.here.now c.loop-2.next.items)
          (omega (arith, c.loop-2-test.false, c.loop-2.auto.counter-end, c.requires.turns)) x.1.1,
    )
