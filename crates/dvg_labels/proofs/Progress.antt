-- How far a label file was read.
use Rattle.dvg_labels.proofs.Common.{◌≡◌, ℕ, ◌+◌, List, [], ◌∷◌, ◌++◌, length, length-append, Option, Some, None, append_assoc, arith, lines, lines_behind, Labelling, no_labels, with_line, with_lines}
use Rattle.std.proofs.lemmas.Option.{same_Some}
use Rattle.std.specs.Borrow.{Bor}

-- so many lines of a text are read, these labels are known, and this is left
pub record Progress (text : List ℕ) (rest : Option (Bor (List ℕ))) (known : Labelling) (n : ℕ) : Type 0 where
  pub before : List (List ℕ)
  pub cut : lines text ≡ before ++ lines_behind rest
  pub counted : n ≡ length before
  pub read : with_lines (Some no_labels) before ≡ Some known

with_next : (known : Option Labelling) (now : Labelling) (before : List (List ℕ)) (line : List ℕ) → with_lines known before ≡ Some now
    → with_lines known (before ++ line ∷ []) ≡ with_line now line
with_next None now [] line h = cc
with_next None now (b ∷ before) line h = cc
with_next (Some known) now [] line h = grind (arith, (same_Some known now h))
with_next (Some known) now (b ∷ before) line h = with_next (with_line known b) now before line h

pub line_read : (text : List ℕ) (known now : Labelling) (n : ℕ) (rest : Option (Bor (List ℕ))) (line : List ℕ)
    (behind : Option (Bor (List ℕ)))
    → Progress text rest known n → lines_behind rest ≡ line ∷ lines_behind behind → with_line known line ≡ Some now
    → Progress text behind now (n + 1)
line_read text known now n rest line behind h rest_is is =
    grind (
      arith,
      (append_assoc h.before (line ∷ []) (lines_behind behind)),
      (length-append h.before (line ∷ [])),
      (with_next (Some no_labels) known h.before line h.read),
    )
