use Rattle.dvg_recipe.proofs.Common.{◌≡◌, None, take}
use Rattle.dvg_recipe.specs.Private.Hulls.{AreUnder, IsAct, LeadOn}
use Rattle.dvg_recipe.proofs.judge.add_act.Given as goal

abbrev pub invariant-loop-hull : goal.invariant-loop-hull
invariant-loop-hull g l =
    let list = g.E.Entries.list l.entries in
    (l.broken ≡ None → l.initial.broken ≡ None)
    × (l.broken ≡ None → LeadOn l.asked.window list l.asked.budget (IsAct list l.act) (take l.hull-index l.here) l.next.items)
    × AreUnder l.initial.next.items l.next.items × (l.notes ≡ l.initial.notes)
