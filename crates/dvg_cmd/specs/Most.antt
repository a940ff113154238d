-- The frames of a run that take most, of those whose lines tell clocks, and the lines that tell them. All of it is this project's own.
use Rattle.std.specs.Prelude.{ℕ, List, [], ◌∷◌, ◌++◌, Option, None, Some, codes, decimal, if◌then◌else◌, nat_lt}
use Rattle.dvg_clocks.specs.declared.judging.TimedYes.{TimedYes}
use Rattle.dvg_spelling.specs.Outcomes.{FrameAnswer}
use Rattle.dvg_spelling.specs.declared.answer.Answer.TheVariants.{Timed}
use Rattle.dvg_spelling.specs.Report.{clocks_text}

-- a frame, by its name, and what it takes
pub record Leader : Type 0 where
  pub name : List ℕ
  pub timed : TimedYes

-- the frames that take the most words, the most depth and the most clocks
pub record Most : Type 0 where
  pub words : Leader
  pub depth : Leader
  pub clocks : Leader

-- how much is compared
abbrev pub words_in : TimedYes → ℕ
words_in t = t.yes.words

abbrev pub depth_in : TimedYes → ℕ
depth_in t = t.yes.depth

abbrev pub clocks_in : TimedYes → ℕ
clocks_in t = t.clocks.most

-- the later one if it takes more, else the earlier one
abbrev pub greater : (TimedYes → ℕ) → Leader → Leader → Leader
greater count old new = if nat_lt (count old.timed) (count new.timed) then new else old

-- of a frame alone
abbrev pub most_of : List ℕ → TimedYes → Most
most_of name t =
    record {
      words = record { name = name; timed = t };
      depth = record { name = name; timed = t };
      clocks = record { name = name; timed = t };
    }

-- with a later frame
abbrev pub with_timed : Most → List ℕ → TimedYes → Most
with_timed m name t =
    record {
      words = greater words_in m.words (record { name = name; timed = t });
      depth = greater depth_in m.depth (record { name = name; timed = t });
      clocks = greater clocks_in m.clocks (record { name = name; timed = t });
    }

-- with a later frame, if its line tells clocks
abbrev pub with_frame : Option Most → List ℕ → FrameAnswer → Option Most
with_frame None name (Timed t) = Some (most_of name t)
with_frame (Some m) name (Timed t) = Some (with_timed m name t)
with_frame most name answer = most

-- a line: what is taken, and by which frame
abbrev pub taken_text : List ℕ → List ℕ → List ℕ
taken_text taken name = codes "most" ++ taken ++ codes " " ++ name ++ codes "\n"

-- the three lines
abbrev pub lines_of : Most → List (List ℕ)
lines_of m =
    taken_text (codes " words=" ++ decimal m.words.timed.yes.words) m.words.name
    ∷ taken_text (codes " depth=" ++ decimal m.depth.timed.yes.depth) m.depth.name
    ∷ taken_text (clocks_text m.clocks.timed.clocks) m.clocks.name ∷ []

-- no line where no line tells clocks
abbrev pub most_texts : Option Most → List (List ℕ)
most_texts None = []
most_texts (Some m) = lines_of m
