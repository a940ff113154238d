use Rattle.dvg_check.proofs.Common.{◌∙◌, sym}
use Rattle.dvg_check.proofs.Loop.{onward, done, found_missing, found_odd, found_broken}
use Rattle.dvg_check.proofs.walk.walk.Goals as goal

pub returns-in-Ok-Last-clause-ok : goal.returns-in-Ok-Last-clause-ok
returns-in-Ok-Last-clause-ok g c =
    rw c.in-Ok-Last.field-0-is
    (done _ g.R.Rules.order _ _ (g.R.Rules.keeps c.args.rules.now) g.R.Rules.KIND (g.E.Entries.list c.args.entries.now)
    (g.R.Rules.scale c.args.rules.now) _ _ c.items.cursor _ _ c.items.invariant.1 (sym c.in-Holds.ensures.value) c.items.callees
    c.in-Ok-Last.field-0 c.in-Ok-Last.known c.items.invariant.0 c.in-Ok-Last.field-0-is
    (rw c.machine-machine.ensures at c.in-Ok-Last.ensures.kept))

pub items-preserved : goal.items-preserved
items-preserved g c = (
  c.in-Ok-Onward.ensures.same ∙ c.items.invariant.0,
  rw c.in-Ok-Onward.field-0-is
      (onward _ g.R.Rules.order _ _ _ g.R.Rules.KIND (g.E.Entries.list c.args.entries.now) (g.R.Rules.scale c.args.rules.now) _ _
      c.items.cursor _ _ c.items.invariant.1 (sym c.in-Holds.ensures.value) c.items.callees c.in-Ok-Onward.field-0
      c.in-Ok-Onward.next c.items.invariant.0 c.in-Ok-Onward.field-0-is (rw c.machine-machine.ensures at c.in-Ok-Onward.ensures.kept)),
)

pub returns-in-Missing-clause-err : goal.returns-in-Missing-clause-err
returns-in-Missing-clause-err g c =
    rw (c.at.ensures, c.UNMAPPED.ensures)
    (found_missing _ g.R.Rules.order _ _ (g.R.Rules.keeps c.args.rules.now) g.R.Rules.KIND (g.E.Entries.list c.args.entries.now)
    (g.R.Rules.scale c.args.rules.now) _ _ c.items.cursor c.items.invariant.1 (sym c.in-Missing.ensures.value))

pub returns-in-Odd-clause-err : goal.returns-in-Odd-clause-err
returns-in-Odd-clause-err g c =
    rw (c.at-in-Odd.ensures, c.ODD.ensures)
    (found_odd _ g.R.Rules.order _ _ (g.R.Rules.keeps c.args.rules.now) g.R.Rules.KIND (g.E.Entries.list c.args.entries.now)
    (g.R.Rules.scale c.args.rules.now) _ _ c.items.cursor c.items.invariant.1 (sym c.in-Odd.ensures.value))

pub returns-in-Err-clause-err : goal.returns-in-Err-clause-err
returns-in-Err-clause-err g c =
    rw c.at-in-Err.ensures (found_broken _ g.R.Rules.order _ _ (g.R.Rules.keeps c.args.rules.now) g.R.Rules.KIND
    (g.E.Entries.list c.args.entries.now) (g.R.Rules.scale c.args.rules.now) _ _ c.items.cursor _ _ c.items.invariant.1
    (sym c.in-Holds.ensures.value) c.items.callees c.in-Err.why c.see_by-seen.result
    c.items.invariant.0 (rw c.machine-machine.ensures at c.in-Err.ensures.broken)
    (rw (sym c.items.invariant.0, c.KIND-in-Err.ensures, c.machine-machine.ensures) at c.see_by-seen.ensures.value))
