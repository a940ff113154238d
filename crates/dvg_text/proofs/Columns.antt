-- How a column follows from what a line has in common with one that the form allows.
use Rattle.dvg_text.proofs.Common.{◌≡◌, ◌+◌, ◌≤◌, ℕ, List, ◌++◌, take, drop, length, refl, sym, subst, take-append-drop, ended}
use Rattle.dvg_text.specs.Columns.{IsAllowedBefore}

-- what a line has in common with the text of an allowed line and its end
pub allowed_before : (line text allowed : List ℕ) (n : ℕ) → n ≤ length line → take n line ≡ take n text → text ≡ ended allowed
    → IsAllowedBefore (λ l. l ≡ allowed) line (n + 1)
allowed_before line text allowed n inside same whole =
    let joined : take n line ++ drop n (ended allowed) ≡ ended allowed = rw (same, whole) (take-append-drop n (ended allowed)) in
    record { before = n; counted = refl; inside = inside; front = (allowed, drop n (ended allowed), refl, joined) }

-- the line is one of several that are allowed
pub allowed_among : (IsAllowed : List ℕ → Type 0) (allowed line : List ℕ) (column : ℕ) → IsAllowed allowed
    → IsAllowedBefore (λ l. l ≡ allowed) line column → IsAllowedBefore IsAllowed line column
allowed_among IsAllowed allowed line column is told =
    let (l, rest, same, joined) = told.front in
    record { before = told.before; counted = told.counted; inside = told.inside; front = (l, rest, subst IsAllowed (sym same) is, joined) }
