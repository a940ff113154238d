-- What a run over several things, frames or recipes, writes: a line for each. All of it is this project's own.
use Rattle.std.specs.Prelude.{◌≡◌, ℕ, Bool, true, false, if◌then◌else◌, List, [], ◌∷◌, ◌++◌, Option, codes}
use Rattle.std.specs.Io.KnownBytes.{Appends}
use Rattle.std.specs.Iterator.{Drains, Yields}
use Rattle.dvg_text.specs.Devices.{AppendsPrefix}
use Rattle.dvg_spelling.specs.declared.outcome.Outcome.TheVariants as outcome
use Rattle.dvg_spelling.specs.declared.outcome.Outcome.{Outcome}
use Rattle.dvg_spelling.specs.Outcomes.{worse}
use Rattle.dvg_cmd.specs.declared.listing.Lines.{Lines}
use Rattle.dvg_cmd.specs.declared.listing.Lines.TheVariants as which
use Rattle.dvg_cmd.specs.declared.listing.Layout.{Layout}
use Rattle.dvg_cmd.specs.declared.listing.Listing.{Listing}
use Rattle.dvg_cmd.specs.declared.progress.Progress.{Progress}
use Rattle.dvg_cmd.specs.Sent.{joined, TakeOneWriteEach, Sent}

module _ {I A : Type 0} (next_gives : I → Option A → I → Type 0) (things : I) (P : List A → Type 0) where
  -- an iterator gave these things and then none, and P holds of them
  abbrev pub HoldsOfAll : Type 0
  HoldsOfAll = (taken : List A) × Drains next_gives things taken × P taken

  -- it gave these things first, and P holds of them
  abbrev pub HoldsOfTaken : Type 0
  HoldsOfTaken = (taken : List A) × (left : I) × Yields next_gives things taken left × P taken

-- a line: a name, and the answer to what has that name
pub record Line (B : Type 0) : Type 0 where
  pub name : List ℕ
  pub answer : B

-- how answers are told: what stands behind the name, what it comes to, which lines are written; and how they are counted, written or not:
-- the tally of none, with one more, and what tells it at the end
pub record Telling (B T : Type 0) : Type 0 where
  pub text : B → List ℕ
  pub outcome : B → Outcome
  pub layout : Layout
  pub none : T
  pub add : T → Line B → T
  pub last : T → List (List ℕ)

-- how a listing is written, with a blank line before each account or without
abbrev pub layout_of : {D : Type 0} → Listing D → Bool → Layout
layout_of listing apart = record { lines = listing.lines; apart = apart; summary = listing.summary }

-- whether a line of this outcome is written: each, or each that is not of an accepted thing
abbrev pub is_written : Lines → Outcome → Bool
is_written which.NotAccepted outcome.Accepted = false
is_written shown end = true

-- what sets an account apart from what was written before it: a blank line
abbrev pub blank_line : Bool → Bool → List (List ℕ)
blank_line true true = codes "\n" ∷ []
blank_line apart written = []

module _ {T : Type 0} where
  -- what is written of a line that comes to this
  abbrev pub told : Progress T → Outcome → List ℕ → List (List ℕ)
  told p end line = if is_written p.layout.lines end then blank_line p.layout.apart p.written ++ line ∷ [] else []

  -- behind it, with this tally
  abbrev pub gone : Progress T → Outcome → T → Progress T
  gone p end tally =
      record p {
        tally = tally;
        worst = worse p.worst end;
        written = if is_written p.layout.lines end then true else p.written;
      }

  -- the last texts, if a summary is asked for
  abbrev pub summary_of : (T → List (List ℕ)) → Progress T → List (List ℕ)
  summary_of last p = if p.layout.summary then blank_line p.layout.apart p.written ++ last p.tally else []

module _ {B T : Type 0} (telling : Telling B T) where
  -- before the first line
  abbrev pub no_line : Progress T
  no_line = record { layout = telling.layout; tally = telling.none; worst = outcome.Accepted; written = false }

  -- after a line
  abbrev pub gone_with : Progress T → Line B → Progress T
  gone_with p line = gone p (telling.outcome line.answer) (telling.add p.tally line)

  -- after several
  abbrev pub gone_on : Progress T → List (Line B) → Progress T
  gone_on p [] = p
  gone_on p (line ∷ rest) = gone_on (gone_with p line) rest

  -- what is written of a line
  abbrev pub texts_of : Progress T → Line B → List (List ℕ)
  texts_of p line = told p (telling.outcome line.answer) (line.name ++ telling.text line.answer)

  -- of several
  abbrev pub line_texts : Progress T → List (Line B) → List (List ℕ)
  line_texts p [] = []
  line_texts p (line ∷ rest) = texts_of p line ++ line_texts (gone_with p line) rest

  -- all texts that are written, in their order
  abbrev pub all_texts : List (Line B) → List (List ℕ)
  all_texts lines = line_texts no_line lines ++ summary_of telling.last (gone_on no_line lines)

-- `IsLineOf` says which lines a thing may have
module _ {A B : Type 0} (IsLineOf : A → Line B → Type 0) where
  -- a line for each thing, in the order of the things
  abbrev pub AreLinesOf : List A → List (Line B) → Type 0
  AreLinesOf [] [] = Unit {0}
  AreLinesOf (thing ∷ things) (line ∷ lines) = IsLineOf thing line × AreLinesOf things lines
  AreLinesOf things lines = ⊥

  -- no other lines are a thing's by what is told later
  abbrev pub TellsAlike : (A → Line B → Type 0) → Type 0
  TellsAlike Later = (thing : A) (line : Line B) → Later thing line → IsLineOf thing line

  module _ {T : Type 0} (telling : Telling B T) where
    -- of a line for each of these things those were written that are listed, and the summary, and nothing else, each by one write if it
    -- fits one; the outcome is the worst of all of them
    pub record Reports (things : List A) (old new : Option (List ℕ)) (writes writes_after : ℕ) (end : Outcome) : Type 0 where
      pub lines : List (Line B)
      pub lines_of : AreLinesOf things lines
      pub written : Appends old new (joined (all_texts telling lines))
      pub one_write : TakeOneWriteEach (all_texts telling lines) writes writes_after
      pub outcome_is : end ≡ (gone_on telling (no_line telling) lines).worst

    -- a prefix of that was written, and nothing else
    pub record ReportsPrefix (things : List A) (old new : Option (List ℕ)) : Type 0 where
      pub lines : List (Line B)
      pub lines_of : AreLinesOf things lines
      pub written : AppendsPrefix old new (joined (all_texts telling lines))

    -- the line of a thing was written if it is listed, and nothing else; it was taken in
    pub record WritesLine
        (thing : A) (old new : Option (List ℕ)) (p p_after : Progress T) (writes writes_after : ℕ) : Type 0 where
      pub line : Line B
      pub line_of : IsLineOf thing line
      pub sent : Sent (texts_of telling p line) old new writes writes_after
      pub progress_is : p_after ≡ gone_with telling p line

    -- a prefix of it was written
    pub record WritesLinePrefix (thing : A) (old new : Option (List ℕ)) (p : Progress T) : Type 0 where
      pub line : Line B
      pub line_of : IsLineOf thing line
      pub written : AppendsPrefix old new (joined (texts_of telling p line))
