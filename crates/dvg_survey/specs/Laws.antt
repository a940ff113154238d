-- What holds over both of two ROMs where no shape that is reached reads a word in which they differ. All of it is this project's own.
use Rattle.std.specs.Prelude.{◌↔◌, ℕ, List, [], ◌∷◌, Result}
use Rattle.dvg_words.specs.Values.{Window}
use Rattle.dvg_words.specs.Memory.{Rom, IsMemory}
use Rattle.dvg_words.specs.Generator.{Status, Running, Reached, start}
use Rattle.dvg_words.specs.declared.beam.Point.{Point}
use Rattle.dvg_cert.specs.declared.entry.Entry.{Entry}
use Rattle.dvg_cert.specs.declared.entry.Key.{Key}
use Rattle.dvg_check.specs.Rules.{GoodFrame}
use Rattle.dvg_check.specs.declared.verdict.Yes.{Yes}
use Rattle.dvg_check.specs.declared.verdict.Refusal.{Refusal}
use Rattle.dvg_make.specs.Frames.{FramesMade}
use Rattle.dvg_make.specs.Judging.{FrameRefused, ByMade}
use Rattle.dvg_make.specs.declared.judging.FrameRefusal.TheVariants.{Make}
use Rattle.dvg_make.specs.declared.fault.EntryFault.{EntryFault}
use Rattle.dvg_survey.specs.Touched.{AreAlike, ReachesTouched}

-- the list is made over the first ROM for these roots and frames, and none of its shapes is touched (profile)
pub record IsUntouched (rom other : Rom) (roots : List (ℕ × Key)) (frames : List (List ℕ)) (list : List Entry) : Type 0 where
  pub alike : AreAlike rom other
  pub made : FramesMade rom roots frames list
  pub untouched : ReachesTouched rom other list → ⊥

-- the same for a frame alone (profile)
abbrev pub IsUntouchedFrame : Rom → Rom → List ℕ → List Entry → Type 0
IsUntouchedFrame rom other words list = IsUntouched rom other [] (words ∷ []) list

-- an untouched list is the one that is made over the other ROM (profile)
abbrev pub SameList : Type 0
SameList =
    (rom other : Rom) (roots : List (ℕ × Key)) (frames : List (List ℕ)) (list : List Entry)
    → IsUntouched rom other roots frames list → FramesMade other roots frames list

-- the checker's verdict on a frame by its made list is the same over both ROMs, in any window and by any budget (profile)
abbrev pub SameVerdict : Type 0
SameVerdict =
    (rom other : Rom) (words : List ℕ) (list : List Entry) → IsUntouchedFrame rom other words list
    → (w : Window) (budget : ℕ) (answer : Result Yes Refusal)
    → ByMade rom words w budget answer ↔ ByMade other words w budget answer

-- over the other ROM no call of the frame is refused, 60 to 62 (profile)
abbrev pub NoneRefused : Type 0
NoneRefused =
    (rom other : Rom) (words : List ℕ) (list : List Entry) → IsUntouchedFrame rom other words list
    → (w : Window) (budget at : ℕ) (why : EntryFault) → FrameRefused other words w budget (Make at why) → ⊥

-- the runs of a good frame have the same states over both ROMs, and so the same strokes (profile)
abbrev pub SameRuns : Type 0
SameRuns =
    (rom other : Rom) (words : List ℕ) (list : List Entry) → IsUntouchedFrame rom other words list
    → IsMemory (record { frame = words; rom = rom }) → IsMemory (record { frame = words; rom = other })
    → (w : Window) (budget count depth : ℕ) → GoodFrame w rom.machine words list budget count depth
    → (place : Point) (scale steps : ℕ) (s : Status)
    → Reached (record { frame = words; rom = rom }) steps (Running (start place scale)) s
    ↔ Reached (record { frame = words; rom = other }) steps (Running (start place scale)) s
