use Rattle.dvg_recipe.proofs.Common.{◌≡◌, ◌≤◌, ℕ, take, get_or, length}
use Rattle.dvg_recipe.specs.Private.Indices.{IsPast, PieceLeads}
use Rattle.dvg_recipe.proofs.belonging.past_piece.Given as goal

abbrev pub invariant-loop-place : goal.invariant-loop-place
invariant-loop-place l =
    (l.passed ≤ l.place) × (length l.here.items ≡ length l.fn.here.items)
    × ((k : ℕ) → l.place ≤ k → get_or l.here.items k 0 ≡ get_or l.fn.here.items k 0)
    × IsPast (PieceLeads l.piece l.places) (take l.place l.fn.here.items) (take l.passed l.here.items)
