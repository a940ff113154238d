use Rattle.std.proofs.Common.{sym, ◌∙◌}
use Rattle.dvg_items.specs.Known.{target}
use Rattle.dvg_kept.specs.Private.Marks.{IsCalledAt}
use Rattle.dvg_kept.proofs.Calls.{onward, done, more_there}
use Rattle.dvg_kept.proofs.marks.MarkedEntries.mark_calls.Goals as goal

pub loop-format-preserved : goal.loop-format-preserved
loop-format-preserved g c =
    let here = c.loop-format.here in
    let calls : IsCalledAt c.args.entries.now c.args.leaves.now (target here.kind c.in-Holds.instr) here.scale c.loop-format.self
    c.mark_target.new.self c.in_ok-called.called = rw c.target-to.ensures at c.in_ok-called.ensures in
    onward (g.F.Fetch.words c.args.words.now) c.args.entries.now c.args.leaves.now c.args.first c.args.self.now here c.loop-format.self
    c.loop-format.invariant c.in-Holds.format c.in-Holds.instr (sym c.in-Holds.ensures.value) c.mark_target.new.self
    c.in_ok-called.called calls
    c.in-Some.at (sym c.next_address.ensures ∙ c.in-Some.is) c.scale_past.result c.scale_past.ensures.value c.scale_past.ensures.key

pub returns-in-None-clause-asked : goal.returns-in-None-clause-asked
returns-in-None-clause-asked g c =
    let here = c.loop-format.here in
    let calls : IsCalledAt c.args.entries.now c.args.leaves.now (target here.kind c.in-Holds.instr) here.scale c.loop-format.self
    c.mark_target.new.self c.in_ok-called.called = rw c.target-to.ensures at c.in_ok-called.ensures in
    done (g.F.Fetch.words c.args.words.now) c.args.entries.now c.args.leaves.now c.args.first c.args.self.now here c.loop-format.self
    c.loop-format.invariant c.in-Holds.format c.in-Holds.instr (sym c.in-Holds.ensures.value) c.mark_target.new.self
    c.in_ok-called.called calls
    (sym c.next_address.ensures ∙ c.in-None.is)

pub returns-in-None-clause-more : goal.returns-in-None-clause-more
returns-in-None-clause-more g c =
    let here = c.loop-format.here in
    let calls : IsCalledAt c.args.entries.now c.args.leaves.now (target here.kind c.in-Holds.instr) here.scale c.loop-format.self
    c.mark_target.new.self c.in_ok-called.called = rw c.target-to.ensures at c.in_ok-called.ensures in
    more_there (g.F.Fetch.words c.args.words.now) c.args.entries.now c.args.leaves.now c.args.first c.args.self.now here
    c.loop-format.self c.loop-format.invariant c.in-Holds.format c.in-Holds.instr (sym c.in-Holds.ensures.value)
    c.mark_target.new.self c.in_ok-called.called calls
