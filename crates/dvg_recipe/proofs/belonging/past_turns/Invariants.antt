use Rattle.dvg_recipe.proofs.Common.{◌≡◌, ℕ}
use Rattle.dvg_recipe.specs.Private.Indices.{TimesOver, RowLeads}
use Rattle.dvg_recipe.proofs.Turns.{AreFewer}
use Rattle.dvg_recipe.proofs.belonging.past_turns.Given as goal

abbrev pub invariant-loop-turn : goal.invariant-loop-turn
invariant-loop-turn l =
    TimesOver l.turn (RowLeads l.row l.places) l.index l.end
    × ((j : ℕ) → TimesOver l.turn (RowLeads l.row l.places) l.index j → j ≡ l.end)
    × AreFewer (RowLeads l.row l.places) l.least l.turn l.index l.ends.items
