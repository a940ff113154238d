-- Texts in the buffers that C passes. All of it is this project's own.
use Rattle.std.specs.Prelude.{◌≡◌, ◌≤◌, ◌<◌, ◌⊎◌, ◌++◌, ℕ, List, length, drop, codes, Result, Ok, Err}
use Rattle.dvg_words.specs.Values.{MemoryMap, Window}
use Rattle.dvg_check.specs.declared.verdict.Yes.{Yes}
use Rattle.dvg_make.specs.declared.judging.FrameRefusal.{FrameRefusal}
use Rattle.dvg_spelling.specs.Report.{answer_text, frame_refusal_text}
use Rattle.dvg_spelling.specs.declared.answer.Answer.TheVariants.{Judged}
use Rattle.dvg_c.specs.declared.text.TextAnswer.{TextAnswer}
use Rattle.dvg_c.specs.declared.answer.TheConstants.{SHORT_BUFFER, NO_TEXT_MEMORY}
use Rattle.dvg_c.specs.Told.{numbered}
use Rattle.dvg_c.specs.Alone.{AloneVerdict, told_alone}

-- the text stands whole at the buffer's start, and what is behind it is as it was; where it is longer than the buffer, all of the buffer
-- is as it was
pub record IsPut (text old new : List ℕ) (t : TextAnswer) : Type 0 where
  pub length_is : t.length ≡ length text
  pub whole : length text ≤ length old → (t.number ≡ 0) × (new ≡ text ++ drop (length text) old)
  pub short : length old < length text → (t.number ≡ SHORT_BUFFER) × (new ≡ old)

-- a number alone, of which there is no text
abbrev pub text_numbered : ℕ → TextAnswer
text_numbered n = record { length = 0; frame = 0; answer = numbered n; number = n }

-- the account of a verdict: its line, as `frames` writes it behind the frame's name, and what follows
pub record IsAccount (v : Result Yes FrameRefusal) (text : List ℕ) : Type 0 where
  pub behind : List ℕ
  pub text_is : text ≡ answer_text frame_refusal_text (Judged v) ++ codes "\n" ++ behind

-- what is told of the account of what a frame comes to: it is put, or there was no memory for it; or the number of what is out of range
abbrev pub TellsAccount : Result (Result Yes FrameRefusal) ℕ → List ℕ → List ℕ → TextAnswer → Type 0
TellsAccount (Ok v) old new t =
    ((text : List ℕ) × IsAccount v text × IsPut text old new t) ⊎ ((t.number ≡ NO_TEXT_MEMORY) × (t.length ≡ 0) × (new ≡ old))
TellsAccount (Err n) old new t = (t.number ≡ n) × (t.length ≡ 0) × (new ≡ old)

-- what the frame comes to is told, and so is the account of it
pub record IsExplained (machine : ℕ) (rom : List ℕ) (map : MemoryMap) (frame : List ℕ) (budget : ℕ) (w : Window) (old new : List ℕ)
    (t : TextAnswer) : Type 0 where
  pub verdict : Result (Result Yes FrameRefusal) ℕ
  pub holds : AloneVerdict machine rom map frame budget w verdict
  pub answer_is : t.answer ≡ told_alone verdict
  pub frame_is : t.frame ≡ 0
  pub told : TellsAccount verdict old new t
