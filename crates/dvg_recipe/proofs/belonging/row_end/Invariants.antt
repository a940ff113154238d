use Rattle.dvg_recipe.proofs.Common.{◌≡◌, ℕ, take}
use Rattle.dvg_recipe.specs.Private.Indices.{RowLeads}
use Rattle.dvg_recipe.proofs.belonging.row_end.Given as goal

abbrev pub invariant-loop-piece : goal.invariant-loop-piece
invariant-loop-piece l =
    RowLeads (take l.piece-index l.row) l.places l.index l.end
    × ((j : ℕ) → RowLeads (take l.piece-index l.row) l.places l.index j → j ≡ l.end)
