use Rattle.dvg_recipe.proofs.Common.{◌∙◌, ◌+◌, arith, rules}
use Rattle.dvg_recipe.specs.Private.Hulls.{PlaceAct, IsAct, LeadOn, places_of}
use Rattle.dvg_recipe.proofs.Sounds.{under_on}
use Rattle.dvg_recipe.proofs.Leads.{lead_more, lead_places, scales_next, in_scales}
use Rattle.dvg_recipe.proofs.judge.add_places.Goals as goal

pub loop-scale-preserved : goal.loop-scale-preserved
loop-scale-preserved g c =
    let w = c.args.asked.now.window in
    let list = g.E.Entries.list c.args.entries.now in
    let budget = c.args.asked.now.budget in
    let here = c.args.here.now in
    let range = c.args.range.now in
    let n = c.loop-scale.scale in
    let more = c.add_place.new.next.items in
    let inv = c.loop-scale.invariant in
    let e = c.in_ok-add_place.ensures in (
      λ fine. inv.0 (e.fine fine),
      λ fine. scales_next (λ s. LeadOn w list budget (IsAct list (PlaceAct (places_of range) s)) here more) range.scales n (n + 1)
          (omega arith) (e.leads fine)
          (λ s lt there. lead_more w list budget (IsAct list (PlaceAct (places_of range) s)) here c.loop-scale.next.items more e.kept
          (inv.1 (e.fine fine) s lt there)),
      under_on _ _ _ inv.2 e.kept,
      e.noted ∙ inv.3,
    )

pub returns-clause-leads : goal.returns-clause-leads
returns-clause-leads g c =
    λ fine. lead_places c.args.asked.now.window (g.E.Entries.list c.args.entries.now) c.args.asked.now.budget c.args.here.now
    c.loop-scale.next.items c.args.range.now
    (λ s there. c.loop-scale.invariant.1 fine s (in_scales c.args.range.now.scales s c.loop-scale.scale (search rules) there) there)
