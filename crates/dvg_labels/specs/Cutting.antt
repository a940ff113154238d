-- How a label file is cut into lines, and a line into words. All of it is this project's own.
use Rattle.std.specs.Prelude.{ℕ, Bool, true, false, ◌||◌, ◌==◌, List, [], ◌∷◌, Option, Some, None}
use Rattle.std.specs.Borrow.{Bor}
use Rattle.std.specs.List.{slice_split, filter}
use Rattle.dvg_labels.specs.Limits.{LINE_FEED}

-- a byte between words: a space, a tab or a CR
abbrev pub is_blank : ℕ → Bool
is_blank b = (b == 32) || ((b == 9) || (b == 13))

-- the lines of a text: the parts between its LFs
abbrev pub lines : List ℕ → List (List ℕ)
lines text = slice_split (λ b. b == LINE_FEED) text

-- the lines of what follows, if anything does
abbrev pub lines_behind : Option (Bor (List ℕ)) → List (List ℕ)
lines_behind None = []
lines_behind (Some text) = lines text.now

-- there is a byte
abbrev pub has_bytes : List ℕ → Bool
has_bytes [] = false
has_bytes (b ∷ bs) = true

-- the words of a line: the parts between its blanks that have bytes
abbrev pub words : List ℕ → List (List ℕ)
words line = filter has_bytes (slice_split is_blank line)

-- the first word, or nothing where there is none
abbrev pub first_of : List (List ℕ) → List ℕ
first_of [] = []
first_of (word ∷ more) = word
