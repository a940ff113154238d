-- The lines of a table, one after another.
use Rattle.dvg_spelling.proofs.Common.{◌≡◌, ℕ, ◌+◌, ◌<◌, List, [], ◌∷◌, ◌++◌, length, take, get_or, refl, arith, row_text, rows_text, append_assoc, append-nil, take_more}
use Rattle.dvg_spelling.specs.declared.rules.Rule.{Rule}

rows_then : (rules : List Rule) (rule : Rule) → rows_text (rules ++ rule ∷ []) ≡ rows_text rules ++ row_text rule
rows_then [] rule = append-nil (row_text rule)
rows_then (first ∷ rules) rule = grind (arith, (rows_then rules rule), append_assoc)

-- with the line of the next rule it is the table of one more
pub rows_next : (rules : List Rule) (i : ℕ) (d : Rule) → i < length rules → (get_or rules i d ≡ get_or rules i d)
    × (rows_text (take (i + 1) rules) ≡ rows_text (take i rules) ++ row_text (get_or rules i d))
rows_next rules i d lt = (refl, rw (take_more rules i d lt) (rows_then (take i rules) (get_or rules i d)))
