-- What is read of an input, up to its limit.
use Rattle.std.specs.Prelude.{◌≡◌, ◌<◌, ℕ, List, [], ◌∷◌, take, length, Option, IfSome}
use Rattle.dvg_make.specs.declared.fault.MakeFault.TheVariants as making
use Rattle.dvg_cmd.specs.Runs.{MOST_FRAME_READ}
use Rattle.dvg_cmd.specs.MakingFrames.{MakeRunFault, FirstWrong}
use Rattle.dvg_spelling.specs.declared.fault.MakeRunFault.TheVariants as fault
use Rattle.dvg_text.specs.Stream.{Stream, Open, Refused}

-- the first of the bytes, up to a limit
unfoldable pub limited : ℕ → List ℕ → List ℕ
limited most bytes = take most bytes

-- these are the first of the bytes that a reader held, up to a limit; any bytes, if those are not known
pub record IsPrefix (most : ℕ) (reader : Option (List ℕ)) (bytes : List ℕ) : Type 0 where
  pub first : IfSome reader (λ held. bytes ≡ limited most held)

-- how many bytes a reader of pieces took
abbrev pub taken_length : Stream → ℕ
taken_length (Open text) = length text
taken_length (Refused f) = 0

-- each of several readers of frames held such bytes
abbrev pub ArePrefixes : List (Option (List ℕ)) → List (List ℕ) → Type 0
ArePrefixes [] [] = Unit {0}
ArePrefixes (reader ∷ readers) (bytes ∷ rest) = IsPrefix MOST_FRAME_READ reader bytes × ArePrefixes readers rest
ArePrefixes readers rest = ⊥

-- why bytes of several frames are not frames: the first has a wrong length, or memory was out, which no frames need
abbrev pub RefusesLengths : List (List ℕ) → MakeRunFault → Type 0
RefusesLengths read (fault.FrameLength n) = FirstWrong read n
RefusesLengths read (fault.Make making.Memory) = 0 < length read
RefusesLengths read f = ⊥
