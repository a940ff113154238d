use Rattle.dvg_check.proofs.Common.{◌∙◌, sym}
use Rattle.dvg_check.proofs.Loop.{onward, done}
use Rattle.dvg_check.proofs.walk.end_if_kept.Goals as goal

pub returns-in-Ok-Last : goal.returns-in-Ok-Last
returns-in-Ok-Last g c =
    done _ g.R.Rules.order _ _ (g.R.Rules.keeps c.args.rules.now) g.R.Rules.KIND (g.E.Entries.list c.args.entries.now)
    (g.R.Rules.scale c.args.rules.now) _ _ c.items.cursor _ _ c.items.invariant.1 (sym c.in-Holds.ensures.value) c.items.callees
    c.in-Ok-Last.field-0 c.in-Ok-Last.known c.items.invariant.0 c.in-Ok-Last.field-0-is
    (rw c.machine-machine.ensures at c.in-Ok-Last.ensures.kept)

pub items-preserved : goal.items-preserved
items-preserved g c = (
  c.in-Ok-Onward.ensures.same ∙ c.items.invariant.0,
  (onward _ g.R.Rules.order _ _ (g.R.Rules.keeps c.args.rules.now) g.R.Rules.KIND (g.E.Entries.list c.args.entries.now)
      (g.R.Rules.scale c.args.rules.now) _ _ c.items.cursor _ _ c.items.invariant.1 (sym c.in-Holds.ensures.value) c.items.callees
      c.in-Ok-Onward.field-0 c.in-Ok-Onward.next c.items.invariant.0 c.in-Ok-Onward.field-0-is
      (rw c.machine-machine.ensures at c.in-Ok-Onward.ensures.kept)),
)
