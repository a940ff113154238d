-- What a change of a ROM touches, of what is made for roots and frames. All of it is this project's own.
use Rattle.std.specs.Prelude.{◌↔◌, ℕ, Bool, IsTrue, List, [], ◌∷◌}
use Rattle.dvg_words.specs.Memory.{Rom}
use Rattle.dvg_cert.specs.declared.entry.Entry.{Entry}
use Rattle.dvg_cert.specs.declared.entry.Key.{Key}
use Rattle.dvg_make.specs.Frames.{FramesMade, FrameMade}
use Rattle.dvg_survey.specs.Touched.{AreTouched, ReachesTouched}
pub use Rattle.dvg_survey.specs.declared.comparing.Comparison.{Comparison}

-- the frame reaches a touched shape, or doesn't: by the list that is made for it alone (profile)
pub record FrameReaches (rom other : Rom) (words : List ℕ) (reaches : Bool) : Type 0 where
  pub list : List Entry
  pub made : FrameMade rom words list
  pub is : IsTrue reaches ↔ ReachesTouched rom other list

-- so it is of each frame, in their order (profile)
abbrev pub EachReaches : Rom → Rom → List (List ℕ) → List Bool → Type 0
EachReaches rom other [] [] = Unit {0}
EachReaches rom other (words ∷ frames) (reaches ∷ rest) = FrameReaches rom other words reaches × EachReaches rom other frames rest
EachReaches rom other frames rest = ⊥

-- the touched entries of the list that is made for all roots and frames, and which of the frames reach a touched shape (profile)
pub record IsComparison (rom other : Rom) (roots : List (ℕ × Key)) (frames : List (List ℕ)) (c : Comparison) : Type 0 where
  pub list : List Entry
  pub made : FramesMade rom roots frames list
  pub entries : AreTouched rom other list c.entries.items
  pub reaching : EachReaches rom other frames c.reaching.items
