use Rattle.std.proofs.Common.{Vec, Global}
use Rattle.std.specs.Prelude.{IfSome, IfNone}
use Rattle.dvg_recipe.proofs.Common.{◌≡◌, ◌+◌, ◌∙◌, ℕ, ap, sym, subst, arith}
use Rattle.dvg_recipe.specs.Private.Indices.{RowLeads, TimesOver}
use Rattle.dvg_recipe.proofs.Turns.{AreFewer, fewer_skip, fewer_push, turns_step, turns_only, turns_end, turns_all}
use Rattle.dvg_recipe.proofs.belonging.past_turns.Goals as goal
use Rattle.dvg_recipe.proofs.belonging.past_turns.Goals.{then-least-turn+in_ok-push, else-least-turn}

pub returns-in-None : goal.returns-in-None
returns-in-None c =
    let R = RowLeads c.args.row.now c.args.places.now in
    let known = c.loop-turn.invariant in
    let turn = c.loop-turn.turn in
    let fewer : AreFewer R c.args.least (turn + 1) c.args.index c.if-least-turn.ends.items =
    elim c.if-least-turn.branch [
      | then-least-turn+in_ok-push w ↦
          fewer_push R c.args.least turn (turn + 1) c.args.index (omega arith) c.loop-turn.ends.items known.2 c.loop-turn.end
          c.if-least-turn.ends.items (ap (λ (v : Vec ℕ Global). v.items) w.ends-is ∙ w.in_ok-push.ensures.items)
          (omega (arith, w.if-least-turn.true)) known.0 known.1
      | else-least-turn w ↦
          subst (AreFewer R c.args.least (turn + 1) c.args.index) (ap (λ (v : Vec ℕ Global). v.items) (sym w.ends-is))
          (fewer_skip R c.args.least turn (turn + 1) c.args.index (omega arith) c.loop-turn.ends.items known.2
          (omega (arith, w.if-least-turn.false)))
    ] in
    turns_end R turn (turn + 1) c.args.index c.loop-turn.end (omega arith) known.1 c.args.least c.args.most c.if-least-turn.ends.items fewer
    (subst (λ o. IfNone o ((j : ℕ) → R c.loop-turn.end j → ⊥)) c.in-None.is c.in_ok-next.ensures.none) c.loop-turn-test.true

pub loop-turn-preserved : goal.loop-turn-preserved
loop-turn-preserved c =
    let R = RowLeads c.args.row.now c.args.places.now in
    let known = c.loop-turn.invariant in
    let turn = c.loop-turn.turn in
    let next = c.in-Some.next in
    let fewer : AreFewer R c.args.least (turn + 1) c.args.index c.if-least-turn.ends.items =
    elim c.if-least-turn.branch [
      | then-least-turn+in_ok-push w ↦
          fewer_push R c.args.least turn (turn + 1) c.args.index (omega arith) c.loop-turn.ends.items known.2 c.loop-turn.end
          c.if-least-turn.ends.items (ap (λ (v : Vec ℕ Global). v.items) w.ends-is ∙ w.in_ok-push.ensures.items)
          (omega (arith, w.if-least-turn.true)) known.0 known.1
      | else-least-turn w ↦
          subst (AreFewer R c.args.least (turn + 1) c.args.index) (ap (λ (v : Vec ℕ Global). v.items) (sym w.ends-is))
          (fewer_skip R c.args.least turn (turn + 1) c.args.index (omega arith) c.loop-turn.ends.items known.2
          (omega (arith, w.if-least-turn.false)))
    ] in
    let one = subst (λ o. IfSome o (λ i. (j : ℕ) → R c.loop-turn.end j → j ≡ i)) c.in-Some.is c.in_ok-next.ensures.only in (
      turns_step R turn (turn + 1) c.args.index c.loop-turn.end (omega arith) known.1 next known.0
          (subst (λ o. IfSome o (R c.loop-turn.end)) c.in-Some.is c.in_ok-next.ensures.some),
      turns_only R turn (turn + 1) c.args.index c.loop-turn.end (omega arith) known.1 next one,
      fewer,
    )

pub returns : goal.returns
returns c =
    let R = RowLeads c.args.row.now c.args.places.now in
    let known = c.loop-turn.invariant in
    let turn = c.loop-turn.turn in
    turns_all R c.args.least c.args.most (turn + 1) c.args.index c.push-2.new.self.items
    (omega (arith, c.loop-turn-test.false, c.loop-turn.auto.turn-end))
    (fewer_push R c.args.least turn (turn + 1) c.args.index (omega arith) c.loop-turn.ends.items known.2 c.loop-turn.end
    c.push-2.new.self.items c.in_ok-push-2.ensures.items
    (omega (arith, c.loop-turn-test.false, c.loop-turn.auto.turn-end, c.requires.turns)) known.0 known.1)
