-- What the maker comes to, from what C passes. All of it is this project's own.
use Rattle.std.specs.Prelude.{◌≡◌, ◌≤◌, ◌⊎◌, ◌==◌, ℕ, List, [], length, sum, Option, Some, Result, Ok, Err, if◌then◌else◌}
use Rattle.std.specs.List.{concat}
use Rattle.dvg_words.specs.Values.{MemoryMap, IsMap}
use Rattle.dvg_words.specs.declared.machine.Machine.{Machine}
use Rattle.dvg_cert.specs.declared.entry.Key.{Key}
use Rattle.dvg_cert.specs.declared.entry.Key.TheVariants.{At, Any}
use Rattle.dvg_make.specs.declared.fault.MakeFault.TheVariants as make
use Rattle.dvg_spelling.specs.Each.{of_each}
use Rattle.dvg_spelling.specs.Faults.{make_run_number}
use Rattle.dvg_spelling.specs.declared.fault.MakeRunFault.{MakeRunFault}
use Rattle.dvg_spelling.specs.declared.fault.MakeRunFault.TheVariants as run
use Rattle.dvg_cmd.specs.Making.{WritesMade}
use Rattle.dvg_cmd.specs.MakingFrames.{MakesForFrames, FramesFaultMeans}
use Rattle.dvg_c.specs.declared.answer.Answer.{Answer}
use Rattle.dvg_c.specs.declared.answer.TheConstants.{ANY_SCALE, BAD_MACHINE, BAD_MAP, BAD_LENGTHS, NO_CALL}
use Rattle.dvg_c.specs.declared.passed.TheConstants.{BOARD}
use Rattle.dvg_c.specs.declared.make.Root.{Root}
use Rattle.dvg_c.specs.declared.text.TextAnswer.{TextAnswer}
use Rattle.dvg_c.specs.Told.{machine_of, numbered, told_fault}
use Rattle.dvg_c.specs.Texts.{IsPut, text_numbered}

-- the address and the key of a root
abbrev pub root_of : Root → ℕ × Key
root_of r = (r.addr, (if r.scale == ANY_SCALE then Any else At r.scale))

-- the frames lie one behind the other in these bytes, with these lengths
pub record AreCut (bytes lengths : List ℕ) (frames : List (List ℕ)) : Type 0 where
  pub joined : concat frames ≡ bytes
  pub lengths_are : of_each length frames ≡ lengths

-- what is told where the bytes are not cut: the lengths don't add up to theirs, or there was no memory, which says nothing
abbrev pub RefusesCut : List ℕ → List ℕ → TextAnswer → Type 0
RefusesCut bytes lengths t =
    ((t ≡ text_numbered BAD_LENGTHS) × (sum lengths ≡ length bytes → ⊥)) ⊎ (t ≡ text_numbered 63)

-- readers hold these frames
abbrev pub holding : List (List ℕ) → List (Option (List ℕ))
holding frames = of_each Some frames

-- the number of the maker's run, with the place of its refusal: a frame's call, or none where it is a root's; all is read from
-- memory and written into it, so that no reader fails, and a failed write is a want of it
abbrev pub told_run : MakeRunFault → Answer
told_run (run.Call call why) = record (told_fault why) { call = call.at }
told_run (run.Make (make.Unstraight word)) = record (numbered 60) { word = word; call = NO_CALL }
told_run (run.Make make.Deep) = record (numbered 61) { call = NO_CALL }
told_run (run.Make make.TooLarge) = record (numbered 62) { call = NO_CALL }
told_run run.ReadRom = numbered 63
told_run run.ReadFrame = numbered 63
told_run run.Write = numbered 63
told_run f = numbered (make_run_number f)

-- the frame that a refusal is about, counted from 0
abbrev pub frame_of : MakeRunFault → ℕ
frame_of (run.Call call why) = call.frame
frame_of (run.FrameLength n) = n
frame_of f = 0

-- what is told of the maker's run where it makes nothing
abbrev pub told_unmade : MakeRunFault → TextAnswer
told_unmade f = record { length = 0; frame = frame_of f; answer = told_run f; number = (told_run f).number }

-- the text of the certificate on a machine, for a ROM's bytes at a map, roots and frames, or what is told where there is none, because the
-- frames can't be cut or by what the maker's run tells
abbrev pub RunVerdict : Machine → List ℕ → MemoryMap → List (ℕ × Key) → List ℕ → List ℕ → Result (List ℕ) TextAnswer → Type 0
RunVerdict machine rom map roots bytes lengths (Ok text) =
    (frames : List (List ℕ)) × AreCut bytes lengths frames
    × WritesMade (MakesForFrames machine (Some rom) map roots (holding frames)) map (Some []) (Some text)
RunVerdict machine rom map roots bytes lengths (Err t) =
    RefusesCut bytes lengths t ⊎ ((f : MakeRunFault) × (t ≡ told_unmade f) × (frames : List (List ℕ)) × AreCut bytes lengths frames
    × FramesFaultMeans machine (Some rom) map roots (holding frames) f)

-- the first of a bad machine, a bad map, and what comes of the run on that machine
abbrev pub MakeVerdict : ℕ → List ℕ → MemoryMap → List (ℕ × Key) → List ℕ → List ℕ → Result (List ℕ) TextAnswer → Type 0
MakeVerdict machine rom map roots bytes lengths v =
    ((v ≡ Err (text_numbered BAD_MACHINE)) × (machine ≤ BOARD → ⊥))
    ⊎ (((v ≡ Err (text_numbered BAD_MAP)) × (machine ≤ BOARD) × (IsMap map → ⊥))
    ⊎ ((machine ≤ BOARD) × IsMap map × RunVerdict (machine_of machine) rom map roots bytes lengths v))

-- what is told of the text of a certificate, or where there is none
abbrev pub TellsMade : Result (List ℕ) TextAnswer → List ℕ → List ℕ → TextAnswer → Type 0
TellsMade (Ok text) old new t = (t.answer ≡ numbered 0) × (t.frame ≡ 0) × IsPut text old new t
TellsMade (Err told) old new t = (t ≡ told) × (new ≡ old)

-- it is told what the maker comes to, and the certificate's text is written
pub record IsMade (machine : ℕ) (rom : List ℕ) (map : MemoryMap) (roots : List (ℕ × Key)) (bytes lengths old new : List ℕ) (t : TextAnswer)
    : Type 0 where
  pub verdict : Result (List ℕ) TextAnswer
  pub holds : MakeVerdict machine rom map roots bytes lengths verdict
  pub told : TellsMade verdict old new t
