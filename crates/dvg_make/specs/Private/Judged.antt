-- The verdict on a frame by the certificate that is made for it. No rule stands here.
use Rattle.std.specs.Prelude.{ℕ, List, [], ◌∷◌, Result, IfOk, IfErr}
use Rattle.dvg_words.specs.Memory.{Rom}
use Rattle.dvg_words.specs.Values.{Window}
use Rattle.dvg_cert.specs.declared.entry.End.{End}
use Rattle.dvg_cert.specs.declared.entry.End.TheVariants.{Rel, Abs, Lost}
use Rattle.dvg_make.specs.declared.maker.MadeCert.{MadeCert}
use Rattle.dvg_make.specs.Frames.{IsMadeFor}
use Rattle.dvg_check.specs.Means.{Means}
use Rattle.dvg_check.specs.declared.fault.Mode.TheVariants.{Exact}
use Rattle.dvg_check.specs.declared.verdict.Yes.{Yes}
use Rattle.dvg_make.specs.Judging.{FrameRefusal, VerdictByMade, AreLeast, FrameRefused, HasCallCause}

-- each clause of `judge` holds of the answer
pub record IsJudged (rom : Rom) (words : List ℕ) (w : Window) (budget : ℕ) (answer : Result Yes FrameRefusal) : Type 0 where
  pub verdict : VerdictByMade rom words w budget answer
  pub means : IfOk answer (λ yes. Means Exact (record { frame = words; rom = rom }) w yes.words yes.depth)
  pub least : IfOk answer (λ yes. AreLeast rom words w yes.words yes.depth)
  pub refused : IfErr answer (FrameRefused rom words w budget)
  pub told : IfErr answer (HasCallCause rom words)

-- what is made is the frame's own
abbrev pub IsOwn : Rom → List ℕ → MadeCert → Type 0
IsOwn rom words made = IsMadeFor rom [] (words ∷ []) made

-- the place is relative to the one where the shape is called
abbrev pub IsRelative : End → Type 0
IsRelative (Rel x y) = Unit {0}
IsRelative (Abs x y) = ⊥
IsRelative Lost = ⊥
