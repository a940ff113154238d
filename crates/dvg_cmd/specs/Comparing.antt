-- What a run says of what a change of a ROM touches, and what it writes. All of it is this project's own.
use Rattle.std.specs.Prelude.{◌≡◌, ◌↔◌, ◌<◌, ◌⊎◌, ℕ, Bool, true, false, IsTrue, List, [], ◌∷◌, ◌++◌, length, Option}
use Rattle.std.specs.Io.KnownBytes.{Appends}
use Rattle.dvg_words.specs.declared.machine.Machine.{Machine}
use Rattle.dvg_words.specs.Values.{MemoryMap}
use Rattle.dvg_words.specs.Memory.{rom_on, words_of, IsRomLength}
use Rattle.dvg_text.specs.Devices.{AppendsPrefix}
use Rattle.dvg_cert.specs.declared.entry.Key.{Key}
use Rattle.dvg_survey.specs.Comparing.{IsComparison}
use Rattle.dvg_survey.specs.declared.comparing.Comparison.{Comparison}
use Rattle.dvg_spelling.specs.Touched.{touched_line, frame_touched_line}
use Rattle.dvg_spelling.specs.declared.fault.MakeRunFault.{MakeRunFault}
use Rattle.dvg_spelling.specs.declared.fault.MakeRunFault.TheVariants as fault
use Rattle.dvg_cmd.specs.Making.{Held}
use Rattle.dvg_cmd.specs.MakingFrames.{of_each, Inputs, FramesFaultMeans}
use Rattle.dvg_cmd.specs.Sent.{joined, TakeOneWriteEach}

-- what the change from one ROM at this map to another touches, by all bytes that readers held of both and of frames
pub record ComparesFor
    (machine : Machine) (rom other : Option (List ℕ)) (map : MemoryMap) (roots : List (ℕ × Key)) (frames : List (Option (List ℕ)))
    (c : Comparison) : Type 0 where
  pub all : Inputs rom map frames
  pub other_bytes : List ℕ
  pub other_held : Held other other_bytes
  pub other_length : IsRomLength map (length other_bytes)
  pub is : IsComparison (rom_on machine map all.rom_bytes) (rom_on machine map other_bytes) roots (of_each words_of all.frame_bytes) c

-- what a fault says of all bytes that the readers held: the wrong length may be that of the other ROM
abbrev pub ComparisonFaultMeans :
    Machine → Option (List ℕ) → Option (List ℕ) → MemoryMap → List (ℕ × Key) → List (Option (List ℕ)) → MakeRunFault → Type 0
ComparisonFaultMeans machine rom other map roots frames f =
    FramesFaultMeans machine rom map roots frames f
    ⊎ ((f ≡ fault.RomLength) × FramesFaultMeans machine other map roots frames f)

-- the lines of the frames that reach a touched shape, in their order, by their names
abbrev pub reaching_lines : List (List ℕ) → List Bool → List (List ℕ)
reaching_lines (name ∷ names) (true ∷ rest) = frame_touched_line name ∷ reaching_lines names rest
reaching_lines (name ∷ names) (false ∷ rest) = reaching_lines names rest
reaching_lines names rest = []

-- the lines of the touched entries, and then those of the frames
abbrev pub comparison_lines : List (List ℕ) → Comparison → List (List ℕ)
comparison_lines names c = of_each touched_line c.entries.items ++ reaching_lines names c.reaching.items

-- the lines of such a comparison were written, each by one write if it fits one, and nothing else; `writes` and `writes_after` count the
-- writes that took their whole piece; an entry is touched, or none is
pub record WritesComparison
    (Is : Comparison → Type 0) (names : List (List ℕ)) (touched : Bool) (old new : Option (List ℕ)) (writes writes_after : ℕ) : Type 0 where
  pub comparison : Comparison
  pub is : Is comparison
  pub some : IsTrue touched ↔ (0 < length comparison.entries.items)
  pub written : Appends old new (joined (comparison_lines names comparison))
  pub one_write : TakeOneWriteEach (comparison_lines names comparison) writes writes_after

-- a prefix of these lines was written, and nothing else
pub record WritesComparisonPrefix (Is : Comparison → Type 0) (names : List (List ℕ)) (old new : Option (List ℕ)) : Type 0 where
  pub comparison : Comparison
  pub is : Is comparison
  pub written : AppendsPrefix old new (joined (comparison_lines names comparison))
