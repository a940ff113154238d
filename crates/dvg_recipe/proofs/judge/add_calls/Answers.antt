use Rattle.dvg_recipe.proofs.Common.{◌∙◌, ◌+◌, ℕ, List, Contains, arith, subst, sym, take_all}
use Rattle.dvg_recipe.specs.Private.Hulls.{CallAct, IsAct, LeadOn}
use Rattle.dvg_recipe.proofs.Sounds.{under_on}
use Rattle.dvg_recipe.proofs.Leads.{lead_more, lead_calls, each_next}
use Rattle.dvg_recipe.proofs.judge.add_calls.Goals as goal

pub loop-to-preserved : goal.loop-to-preserved
loop-to-preserved g c =
    let w = c.args.asked.now.window in
    let list = g.E.Entries.list c.args.entries.now in
    let budget = c.args.asked.now.budget in
    let here = c.args.here.now in
    let more = c.add_act.new.next.items in
    let e = c.in_ok-add_act.ensures in (
      λ fine. c.loop-to.invariant.0 (e.fine fine),
      λ fine. each_next (λ to. LeadOn w list budget (IsAct list (CallAct to)) here more) c.args.targets.now c.loop-to.to-index
          (c.loop-to.to-index + 1) 0 (omega arith) c.loop-to-test.true
          (λ to there. lead_more w list budget (IsAct list (CallAct to)) here c.loop-to.next.items more e.kept
          (c.loop-to.invariant.1 (e.fine fine) to there)) (e.leads fine),
      under_on _ _ _ c.loop-to.invariant.2 e.kept,
      e.noted ∙ c.loop-to.invariant.3,
    )

pub returns-clause-leads : goal.returns-clause-leads
returns-clause-leads g c =
    λ fine. lead_calls c.args.asked.now.window (g.E.Entries.list c.args.entries.now) c.args.asked.now.budget c.args.here.now
    c.loop-to.next.items c.args.targets.now
    (λ to there. c.loop-to.invariant.1 fine to
    (subst (λ (l : List ℕ). Contains l to) (sym (take_all c.loop-to.to-index c.args.targets.now c.loop-to-test.false)) there))
