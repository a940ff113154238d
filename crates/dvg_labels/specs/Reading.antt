-- The labels of a file, line by line. All of it is this project's own.
use Rattle.std.specs.Prelude.{◌≡◌, ℕ, ◌+◌, ◌<◌, ◌≤◌, List, [], ◌∷◌, ◌++◌, length, Option, Some, None, Result, Ok, Err}
use Rattle.std.specs.Borrow.{Bor}
use Rattle.dvg_labels.specs.Limits.{MOST_BYTES, MOST_LABELS}
use Rattle.dvg_labels.specs.Cutting.{lines}
use Rattle.dvg_labels.specs.Grammar.{Meaning, Nothing, Label, Wrong, line_meaning}
use Rattle.dvg_labels.specs.Labels.{Labelling, word_of, total, add}
use Rattle.dvg_labels.specs.declared.fault.LabelFault.{LabelFault}
use Rattle.dvg_labels.specs.declared.fault.LabelFault.TheVariants as fault

-- no labels
abbrev pub no_labels : Labelling
no_labels = record { named = []; passed = 0 }

-- the labels with that of a line, if it tells one; none where the line is of none of the forms
abbrev pub with_meaning : Labelling → Meaning → Option Labelling
with_meaning known Nothing = Some known
with_meaning known (Label name value) = Some (add known name (word_of value))
with_meaning known Wrong = None

-- the labels with that of a line, by its bytes
abbrev pub with_line : Labelling → List ℕ → Option Labelling
with_line known line = with_meaning known (line_meaning line)

-- the labels with those of these lines
abbrev pub with_lines : Option Labelling → List (List ℕ) → Option Labelling
with_lines known [] = known
with_lines None (line ∷ more) = None
with_lines (Some known) (line ∷ more) = with_lines (with_line known line) more

-- the line tells a label
abbrev pub TellsLabel : Meaning → Type 0
TellsLabel (Label name value) = Unit {0}
TellsLabel other = ⊥

-- why the line with this number is refused where these labels stand before it
abbrev pub IsLineFault : Labelling → ℕ → List ℕ → LabelFault → Type 0
IsLineFault known number line fault.TooLong = ⊥
IsLineFault known number line (fault.Form n) = (n ≡ number) × (line_meaning line ≡ Wrong)
IsLineFault known number line (fault.TooMany n) = (n ≡ number) × TellsLabel (line_meaning line) × (total known ≡ MOST_LABELS)
IsLineFault known number line (fault.Memory n) = (n ≡ number) × TellsLabel (line_meaning line)

-- a line, counted from 1, is refused, and the labels of all lines before it are read
pub record RefusesLine (text : List ℕ) (why : LabelFault) : Type 0 where
  pub before : List (List ℕ)
  pub line : List ℕ
  pub after : List (List ℕ)
  pub cut : lines text ≡ before ++ line ∷ after
  pub known : Labelling
  pub read : with_lines (Some no_labels) before ≡ Some known
  pub refused : IsLineFault known (length before + 1) line why

-- what the bytes of a label file are read as: all its labels, or why it is refused
abbrev pub ReadsLabels : List ℕ → Result Labelling LabelFault → Type 0
ReadsLabels text (Ok labels) = (length text ≤ MOST_BYTES) × (with_lines (Some no_labels) (lines text) ≡ Some labels)
ReadsLabels text (Err fault.TooLong) = MOST_BYTES < length text
ReadsLabels text (Err why) = (length text ≤ MOST_BYTES) × RefusesLine text why

-- what is left to read: one more than the bytes of the text that is left, if there is one
abbrev pub left : Option (Bor (List ℕ)) → ℕ
left None = 0
left (Some text) = 1 + length text.now
