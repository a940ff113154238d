use Rattle.dvg_clocks.proofs.Common.{◌≡◌, ◌∙◌, ap, sym, subst, arith, target, IsTaken, ClockRange}
use Rattle.dvg_items.specs.Known.{callee_at}
use Rattle.dvg_clocks.proofs.Walking.{Going, few_of, onward, done, over}
use Rattle.dvg_clocks.proofs.items.items_clocks.Goals as goal

pub item_clocks-clocks-requires-clause-few : goal.item_clocks-clocks-requires-clause-few
item_clocks-clocks-requires-clause-few g c =
    few_of c.args.shapes.now (g.E.Entries.list c.args.entries.now) c.requires.few _ _ c.callee-called.result c.callee-called.ensures.value

pub returns-then-sum-limit-clause-err : goal.returns-then-sum-limit-clause-err
returns-then-sum-limit-clause-err g c =
    let list = g.E.Entries.list c.args.entries.now in
    let source = g.F.Fetch.words c.args.words.now in
    let here = c.loop-format.here in
    let names : c.callee-called.result ≡ callee_at list (target here.kind c.in-Holds.instr) here.scale =
    rw c.target.ensures at c.callee-called.ensures.value in
    let all = ap (λ (r : ClockRange). r.most) c.plus-sum.ensures.value in
    over c.args.states.now source list c.args.shapes.now c.args.first.now c.args.limit c.requires.walkable here c.loop-format.sum
    c.loop-format.invariant c.in-Holds.format c.in-Holds.instr (sym c.in-Holds.ensures.value) c.callee-called.result names
    c.item_clocks-clocks.result c.item_clocks-clocks.ensures.value c.item_clocks-clocks.ensures.ordered
    c.item_clocks-clocks.ensures.few (omega (arith, all, c.if-sum-limit.true))

pub loop-format-preserved : goal.loop-format-preserved
loop-format-preserved g c =
    let list = g.E.Entries.list c.args.entries.now in
    let source = g.F.Fetch.words c.args.words.now in
    let here = c.loop-format.here in
    let names : c.callee-called.result ≡ callee_at list (target here.kind c.in-Holds.instr) here.scale =
    rw c.target.ensures at c.callee-called.ensures.value in
    let all = ap (λ (r : ClockRange). r.most) c.plus-sum.ensures.value in
    subst (Going c.args.states.now source list c.args.shapes.now c.args.first.now c.args.limit c.in-Some.next)
    (sym c.plus-sum.ensures.value)
    (onward c.args.states.now source list c.args.shapes.now c.args.first.now c.args.limit c.requires.walkable here c.loop-format.sum
    c.loop-format.invariant c.in-Holds.format c.in-Holds.instr (sym c.in-Holds.ensures.value) c.callee-called.result names
    c.item_clocks-clocks.result c.item_clocks-clocks.ensures.value c.item_clocks-clocks.ensures.ordered
    c.item_clocks-clocks.ensures.few (omega (arith, all, c.if-sum-limit.false)) c.in-Some.next
    (sym c.past.ensures.value ∙ c.in-Some.is) c.in-Some.ensures.key)

pub returns-in-None-clause-ok : goal.returns-in-None-clause-ok
returns-in-None-clause-ok g c =
    let list = g.E.Entries.list c.args.entries.now in
    let source = g.F.Fetch.words c.args.words.now in
    let here = c.loop-format.here in
    let names : c.callee-called.result ≡ callee_at list (target here.kind c.in-Holds.instr) here.scale =
    rw c.target.ensures at c.callee-called.ensures.value in
    let all = ap (λ (r : ClockRange). r.most) c.plus-sum.ensures.value in
    subst (IsTaken c.args.states.now source list c.args.shapes.now c.args.first.now c.args.limit) (sym c.plus-sum.ensures.value)
    (done c.args.states.now source list c.args.shapes.now c.args.first.now c.args.limit c.requires.walkable here c.loop-format.sum
    c.loop-format.invariant c.in-Holds.format c.in-Holds.instr (sym c.in-Holds.ensures.value) c.callee-called.result names
    c.item_clocks-clocks.result c.item_clocks-clocks.ensures.value c.item_clocks-clocks.ensures.ordered
    c.item_clocks-clocks.ensures.few (omega (arith, all, c.if-sum-limit.false)) (sym c.past.ensures.value ∙ c.in-None.is))
