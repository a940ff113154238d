use Rattle.std.specs.Prelude.{true}
use Rattle.dvg_recipe.proofs.Common.{◌≡◌, ◌<◌, ℕ, None, get_or, false}
use Rattle.dvg_recipe.specs.Private.Hulls.{AreUnder, PlaceAct, IsAct, LeadOn, places_of}
use Rattle.dvg_recipe.proofs.judge.add_places.Given as goal

abbrev pub invariant-loop-scale : goal.invariant-loop-scale
invariant-loop-scale g l =
    let list = g.E.Entries.list l.entries in
    (l.broken ≡ None → l.initial.broken ≡ None)
    × (l.broken ≡ None → (s : ℕ) → s < l.scale → get_or l.range.scales s false ≡ true
    → LeadOn l.asked.window list l.asked.budget (IsAct list (PlaceAct (places_of l.range) s)) l.here l.next.items)
    × AreUnder l.initial.next.items l.next.items × (l.notes ≡ l.initial.notes)
