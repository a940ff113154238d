use Rattle.std.proofs.Common.{Box, Global}
use Rattle.dvg_recipe.proofs.Common.{◌+◌, refl, subst, sym, arith}
use Rattle.dvg_clocks.specs.Kept.{clocks_in}
use Rattle.dvg_recipe.specs.Recipes.{Part, Either', Repeat', Spells}
use Rattle.dvg_recipe.specs.Private.Judging.{TimesOver, Turns}
use Rattle.dvg_recipe.specs.Private.Clocks.{Spend}
use Rattle.dvg_recipe.proofs.PastParts.{if_ok_on}
use Rattle.dvg_recipe.proofs.Spending.{part_as, spend_either, one_turn, least_turns, more_turns}
use Rattle.dvg_recipe.proofs.clocks.+past_part.Goals as goal

-- where a part of a part lies, of which nothing is asked
abbrev place_of : Box Part Global → Box (Unit {0}) Global
place_of box = record { ptr = box.ptr; alloc = box.alloc; value = tt }

pub past_part-returns-in_ok-past_part-in-Either : goal.past_part-returns-in_ok-past_part-in-Either
past_part-returns-in_ok-past_part-in-Either g t c =
    let a = c.in-Either.one in
    let b = c.in-Either.other in
    let here = c.args.here.now in
    let ys = c.in_ok-next-in-Either.next in
    let zs = c.in_ok-past_part-in-Either.field-0 in
    let all = c.add_all.new.self in
    part_as c.args.counting.now.timing.now.states (g.E.Entries.list c.args.counting.now.entries.now)
    (clocks_in c.args.counting.now.shapes.now) (Either' (place_of a) a.value (place_of b) b.value) c.args.part.now here all
    (sym c.in-Either.is)
    (spend_either c.args.counting.now.timing.now.states (g.E.Entries.list c.args.counting.now.entries.now)
    (clocks_in c.args.counting.now.shapes.now) (Spells a.value) (Spells b.value) here ys zs all c.add_all.ensures.kept
    c.add_all.ensures.added
    (part_as c.args.counting.now.timing.now.states (g.E.Entries.list c.args.counting.now.entries.now)
    (clocks_in c.args.counting.now.shapes.now) _ a.value here ys c.deref-in-Either.ensures c.in_ok-next-in-Either.ensures)
    (part_as c.args.counting.now.timing.now.states (g.E.Entries.list c.args.counting.now.entries.now)
    (clocks_in c.args.counting.now.shapes.now) _ b.value here zs c.deref-in-Either-2.ensures c.in_ok-past_part-in-Either.ensures))

pub past_part-returns-in-Repeat : goal.past_part-returns-in-Repeat
past_part-returns-in-Repeat g t c =
    let least = c.in-Repeat.least in
    let most = c.in-Repeat.most in
    let body = c.in-Repeat.body in
    let here = c.args.here.now in
    if_ok_on c.past_turns.result _ _
    (λ next h. part_as c.args.counting.now.timing.now.states (g.E.Entries.list c.args.counting.now.entries.now)
    (clocks_in c.args.counting.now.shapes.now) (Repeat' least most (place_of body) body.value) c.args.part.now here next
    (sym c.in-Repeat.is)
    (subst (λ (p : Part). Spend c.args.counting.now.timing.now.states (g.E.Entries.list c.args.counting.now.entries.now)
    (clocks_in c.args.counting.now.shapes.now) (Turns least most (Spells p)) here next) c.deref-in-Repeat.ensures h))
    c.past_turns.ensures

pub past_turns-loop-preserved : goal.past_turns-loop-preserved
past_turns-loop-preserved g t c =
    one_turn c.args.counting.now.timing.now.states (g.E.Entries.list c.args.counting.now.entries.now)
    (clocks_in c.args.counting.now.shapes.now) c.args.body.now c.loop.counter (c.loop.counter + 1) c.args.here.now c.loop.there
    c.in_ok-there.there (omega arith) c.loop.invariant c.in_ok-there.ensures

pub past_turns-loop-2-init : goal.past_turns-loop-2-init
past_turns-loop-2-init g t c =
    let turns : Spend c.args.counting.now.timing.now.states (g.E.Entries.list c.args.counting.now.entries.now)
    (clocks_in c.args.counting.now.shapes.now) (TimesOver c.args.least (Spells c.args.body.now)) c.args.here.now c.loop.there =
    subst (λ n. Spend c.args.counting.now.timing.now.states (g.E.Entries.list c.args.counting.now.entries.now)
    (clocks_in c.args.counting.now.shapes.now) (TimesOver n (Spells c.args.body.now)) c.args.here.now c.loop.there)
    (omega (arith, c.loop-test.false, c.loop.auto.counter-end)) c.loop.invariant in (
      turns,
      least_turns c.args.counting.now.timing.now.states (g.E.Entries.list c.args.counting.now.entries.now)
          (clocks_in c.args.counting.now.shapes.now) c.args.body.now c.args.least c.args.least c.args.here.now c.loop.there refl turns,
    )

pub past_turns-loop-2-preserved : goal.past_turns-loop-2-preserved
past_turns-loop-2-preserved g t c =
    let turn = one_turn c.args.counting.now.timing.now.states (g.E.Entries.list c.args.counting.now.entries.now)
    (clocks_in c.args.counting.now.shapes.now) c.args.body.now c.loop-2.counter (c.loop-2.counter + 1) c.args.here.now c.loop-2.there
    c.in_ok-there-2.there (omega arith) c.loop-2.invariant.0 c.in_ok-there-2.ensures in (
      turn,
      more_turns c.args.counting.now.timing.now.states (g.E.Entries.list c.args.counting.now.entries.now)
          (clocks_in c.args.counting.now.shapes.now) c.args.body.now c.args.least c.loop-2.counter (c.loop-2.counter + 1) c.args.here.now
          c.in_ok-there-2.there c.loop-2.all c.add_all.new.self (omega arith) c.loop-2.invariant.1 turn c.add_all.ensures.kept
          c.add_all.ensures.added,
    )

pub past_turns-returns : goal.past_turns-returns
past_turns-returns g t c =
    subst (λ n. Spend c.args.counting.now.timing.now.states (g.E.Entries.list c.args.counting.now.entries.now)
    (clocks_in c.args.counting.now.shapes.now) (Turns c.args.least n (Spells c.args.body.now)) c.args.here.now c.loop-2.all)
    (omega (arith, c.loop-2-test.false, c.loop-2.auto.counter-end, c.requires.turns)) c.loop-2.invariant.1
