use Rattle.dvg_recipe.proofs.Common.{◌∙◌, ◌<◌, ◌+◌, length, arith}
use Rattle.dvg_recipe.specs.Private.Hulls.{IsAct}
use Rattle.dvg_recipe.proofs.Doing.{one_sound}
use Rattle.dvg_recipe.proofs.Sounds.{under_on}
use Rattle.dvg_recipe.proofs.Leads.{does_so, lead_next, lead_whole}
use Rattle.dvg_recipe.proofs.judge.add_act.Goals as goal

pub act_change-change-requires-clause-key : goal.act_change-change-requires-clause-key
act_change-change-requires-clause-key g c = c.hull.invariant.scale

pub see-requires : goal.see-requires
see-requires g c = record { changes = one_sound _ c.act_change-change.ensures.sound }

pub loop-hull-preserved : goal.loop-hull-preserved
loop-hull-preserved g c =
    let list = g.E.Entries.list c.args.entries.now in
    let e = c.in_ok-put.ensures in
    let lt : c.loop-hull.hull-index < length c.args.here.now = omega (arith, c.loop-hull-test.true) in (
      λ fine. c.loop-hull.invariant.0 (e.fine fine),
      λ fine. lead_next c.args.asked.now.window list c.args.asked.now.budget (IsAct list c.args.act.now) c.args.here.now
          c.loop-hull.hull-index (c.loop-hull.hull-index + 1) c.hull-item.result c.act_change-change.result c.loop-hull.next.items c.put.new.next.items
          (omega arith) lt c.hull-item.is
          (c.loop-hull.invariant.1 (e.fine fine)) e.kept
          (λ k i act format. rw (← c.hull.view_is)
          (does_so list _ _ _ k i c.act_change-change.ensures.value (act.each _ format) (act.into _))) (e.keeps fine)
          (e.added fine),
      under_on _ _ _ c.loop-hull.invariant.2 e.kept,
      c.see.ensures ∙ c.loop-hull.invariant.3,
    )

pub returns-clause-leads : goal.returns-clause-leads
returns-clause-leads g c =
    let list = g.E.Entries.list c.args.entries.now in
    λ fine. lead_whole c.args.asked.now.window list c.args.asked.now.budget (IsAct list c.args.act.now) c.args.here.now
    c.loop-hull.next.items c.loop-hull.hull-index (omega (arith, c.loop-hull-test.false)) (c.loop-hull.invariant.1 fine)
