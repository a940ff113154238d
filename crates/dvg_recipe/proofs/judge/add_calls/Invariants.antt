use Rattle.dvg_recipe.proofs.Common.{◌≡◌, ℕ, None, take, Contains}
use Rattle.dvg_recipe.specs.Private.Hulls.{AreUnder, CallAct, IsAct, LeadOn}
use Rattle.dvg_recipe.proofs.judge.add_calls.Given as goal

abbrev pub invariant-loop-to : goal.invariant-loop-to
invariant-loop-to g l =
    let list = g.E.Entries.list l.entries in
    (l.broken ≡ None → l.initial.broken ≡ None)
    × (l.broken ≡ None → (to : ℕ) → Contains (take l.to-index l.targets) to
    → LeadOn l.asked.window list l.asked.budget (IsAct list (CallAct to)) l.here l.next.items)
    × AreUnder l.initial.next.items l.next.items × (l.notes ≡ l.initial.notes)
