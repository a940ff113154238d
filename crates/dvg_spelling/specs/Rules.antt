-- The table of numbers, as it is written. All of it is this project's own.
use Rattle.std.specs.Prelude.{ℕ, zero, suc, Bool, nat_le, ◌&&◌, ◌||◌, if◌then◌else◌, List, [], ◌∷◌, ◌++◌, codes, decimal}
use Rattle.dvg_spelling.specs.declared.rules.Rule.{Rule}

-- the line of a number and what it means
abbrev pub row_text : Rule → List ℕ
row_text rule = decimal rule.number ++ codes " " ++ rule.meaning.now ++ codes "\n"

-- a line for each of these rules
abbrev pub rows_text : List Rule → List ℕ
rows_text [] = []
rows_text (rule ∷ rules) = row_text rule ++ rows_text rules

-- the line of a label and what it labels
abbrev pub labelled_text : List ℕ → List ℕ → List ℕ
labelled_text label told = label ++ codes ": " ++ told ++ codes "\n"

-- all that is told of a rule
abbrev pub rule_text : Rule → List ℕ
rule_text rule =
    row_text rule ++ labelled_text (codes "Its line") rule.line.now ++ labelled_text rule.heading.now rule.input.now
    ++ labelled_text (codes "What to do") rule.cure.now

-- a number from the first to the last of these
abbrev pub is_within : ℕ → ℕ → ℕ → Bool
is_within first last n = nat_le first n && nat_le n last

-- the numbers of which something is told
abbrev pub is_rule_number : ℕ → Bool
is_rule_number n =
    is_within 1 2 n || is_within 10 17 n || is_within 20 33 n || is_within 40 58 n || is_within 59 63 n || is_within 70 74 n

-- those below a number, in their order
abbrev pub numbers_below : ℕ → List ℕ
numbers_below zero = []
numbers_below (suc n) = numbers_below n ++ (if is_rule_number n then n ∷ [] else [])
