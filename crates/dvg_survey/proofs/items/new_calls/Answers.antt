use Rattle.dvg_survey.proofs.Common.{Option, ℕ, sym, ap, ◌∙◌, callee_at, arith}
use Rattle.dvg_survey.proofs.Visiting.{stops, finds_none, ends_here}
use Rattle.dvg_survey.proofs.items.new_calls.Goals as goal
use Rattle.dvg_survey.proofs.Visiting.{starts, walks_on}

pub returns-then-has : goal.returns-then-has
returns-then-has g c =
    grind (
      arith,
      (stops c.args.rom.now (g.E.Entries.list c.args.entries.now) c.args.entry.now c.args.visited.now _ _ _ _
          c.loop-format.invariant (sym c.has.ensures.value ∙ c.if-has.true)),
    )

pub returns-in-None : goal.returns-in-None
returns-in-None g c =
    ends_here c.args.rom.now (g.E.Entries.list c.args.entries.now) c.args.entry.now c.args.visited.now _ _ _ _ c.loop-format.invariant
    c.in-Holds.format c.in-Holds.instr (sym c.in-Holds.ensures.value) c.callee-named.result
    (c.callee-named.ensures.value ∙ ap (λ (to : Option ℕ). callee_at (g.E.Entries.list c.args.entries.now) to c.loop-format.scale)
    c.target.ensures)
    c.add.new.self c.add.ensures.value c.push_call.new.calls.items c.in_ok-push_call.ensures (sym c.in-None.ensures)

pub returns : goal.returns
returns g c =
    finds_none c.args.rom.now (g.E.Entries.list c.args.entries.now) c.args.entry.now c.args.visited.now _ _ _ _ c.loop-format.invariant
    (λ format instr is. c.in_default.not-Holds _ _ (c.read_cell.ensures.value ∙ is))

pub loop-format-init : goal.loop-format-init
loop-format-init g c = grind (arith, starts, walks_on)

pub loop-format-preserved : goal.loop-format-preserved
loop-format-preserved g c = grind (arith, starts, walks_on)
