-- What a run of the maker for frames says of the bytes that its readers held, and what it writes. All of it is this project's own.
use Rattle.std.specs.Prelude.{◌≡◌, ℕ, zero, suc, Bool, true, false, List, [], ◌∷◌, ◌++◌, length, Option, None, Some, ◌≢◌, Result, Err, IfErr, OnOk}
use Rattle.dvg_words.specs.declared.machine.Machine.{Machine}
use Rattle.dvg_words.specs.Values.{MemoryMap}
use Rattle.dvg_words.specs.Memory.{words_of, rom_on, IsRomLength, IsFrameLength}
use Rattle.dvg_text.specs.Devices.{count_after}
use Rattle.dvg_cert.specs.declared.entry.Entry.{Entry}
use Rattle.dvg_cert.specs.declared.entry.Key.{Key}
use Rattle.dvg_make.specs.declared.fault.EntryFault.{EntryFault}
use Rattle.dvg_make.specs.declared.fault.EntryFault.TheVariants.{Memory}
use Rattle.dvg_make.specs.declared.fault.FramesFault.{FramesFault}
use Rattle.dvg_make.specs.declared.fault.MakeFault.{MakeFault}
use Rattle.dvg_make.specs.declared.fault.MakeFault.TheVariants as making
use Rattle.dvg_make.specs.Frames.{FramesMade}
use Rattle.dvg_make.specs.Refusals.{FramesRefuse, make_fault_of}
use Rattle.dvg_make.specs.Accounts.{HasCause}
pub use Rattle.dvg_cmd.specs.Making.{Held, MakeRunFault, blames_frames_rom, blames_a_frame, blames_frames_writer}
use Rattle.dvg_cmd.specs.Runs.{MOST_FRAME_READ, MOST_ROM_READ, IsReadTo}
pub use Rattle.dvg_spelling.specs.Each.{of_each}
use Rattle.dvg_spelling.specs.Faults.{make_run_number}
use Rattle.dvg_spelling.specs.declared.fault.MakeRunFault.TheVariants as fault

-- ---- several readers

-- one reader counts one more failed call, and the counts of the others stay
pub record OneFailed (old new : List ℕ) : Type 0 where
  pub before : List ℕ
  pub count : ℕ
  pub after : List ℕ
  pub old_is : old ≡ before ++ count ∷ after
  pub new_is : new ≡ before ++ count_after true count ∷ after

-- one of the readers failed, or none did
abbrev pub FailedAfter : Bool → List ℕ → List ℕ → Type 0
FailedAfter true old new = OneFailed old new
FailedAfter false old new = new ≡ old

-- each reader was read to its end, or to one byte past a frame's limit, and no further
abbrev pub EachRead : List (Option (List ℕ)) → List (Option (List ℕ)) → Type 0
EachRead [] [] = Unit {0}
EachRead (old ∷ olds) (new ∷ news) = IsReadTo MOST_FRAME_READ old new × EachRead olds news
EachRead olds news = ⊥

-- what a run that ended so read of a ROM and then of frames: `remaining` is what a reader still holds, `failures` its count of failed reads
pub record ReadsInputs
    {R F A : Type 0} (remaining : R → Option (List ℕ)) (failures : R → ℕ) (frame_remaining : F → Option (List ℕ)) (frame_failures : F → ℕ)
    (rom rom_after : R) (frames frames_after : List F) (result : Result A MakeRunFault) : Type 0 where
  -- 70 and 71 come exactly where their device failed in this call, and the device's count then rises by one
  pub rom_count : failures rom_after ≡ count_after (blames_frames_rom result) (failures rom)
  pub frame_counts : FailedAfter (blames_a_frame result) (of_each frame_failures frames) (of_each frame_failures frames_after)
  -- unless its reader failed, the ROM was read to its end or to one byte past its limit, and no further
  pub rom_read : result ≢ Err fault.ReadRom → IsReadTo MOST_ROM_READ (remaining rom) (remaining rom_after)
  -- so were the frames, but where a reader failed or memory was out
  pub frames_read : OnOk result (EachRead (of_each frame_remaining frames) (of_each frame_remaining frames_after))
  pub frames_read_too : IfErr result (λ f. f ≢ fault.ReadRom → f ≢ fault.ReadFrame → make_run_number f ≢ 63
      → EachRead (of_each frame_remaining frames) (of_each frame_remaining frames_after))
  -- where the ROM's reader failed, no frame was read
  pub frames_unread : result ≡ Err fault.ReadRom → frames_after ≡ frames

-- these are all bytes that each reader held, in the order of the readers
abbrev pub EachHeld : List (Option (List ℕ)) → List (List ℕ) → Type 0
EachHeld [] [] = Unit {0}
EachHeld (reader ∷ readers) (bytes ∷ rest) = Held reader bytes × EachHeld readers rest
EachHeld readers rest = ⊥

-- ---- frames

-- the bytes of every frame have a frame's length
abbrev pub AreFrames : List (List ℕ) → Type 0
AreFrames [] = Unit {0}
AreFrames (bytes ∷ rest) = IsFrameLength (length bytes) × AreFrames rest

-- the first frame of a wrong length is at this index, from 0
abbrev pub FirstWrong : List (List ℕ) → ℕ → Type 0
FirstWrong [] n = ⊥
FirstWrong (bytes ∷ rest) zero = IsFrameLength (length bytes) → ⊥
FirstWrong (bytes ∷ rest) (suc n) = IsFrameLength (length bytes) × FirstWrong rest n

-- all bytes that the readers held, of a ROM at this map and of frames, each of its right length
pub record Inputs (rom : Option (List ℕ)) (map : MemoryMap) (frames : List (Option (List ℕ))) : Type 0 where
  pub rom_bytes : List ℕ
  pub frame_bytes : List (List ℕ)
  pub rom_held : Held rom rom_bytes
  pub frames_held : EachHeld frames frame_bytes
  pub rom_length : IsRomLength map (length rom_bytes)
  pub frame_lengths : AreFrames frame_bytes

-- ---- what is answered

-- the list is made for all bytes that the readers held
abbrev pub MakesForFrames : Machine → Option (List ℕ) → MemoryMap → List (ℕ × Key) → List (Option (List ℕ)) → List Entry → Type 0
MakesForFrames machine rom map roots frames list =
    (all : Inputs rom map frames) × FramesMade (rom_on machine map all.rom_bytes) roots (of_each words_of all.frame_bytes) list

-- the maker refuses all bytes that the readers held, with a cause
abbrev pub RefusesInputs : Machine → Option (List ℕ) → MemoryMap → List (ℕ × Key) → List (Option (List ℕ)) → FramesFault → Type 0
RefusesInputs machine rom map roots frames refusal =
    (all : Inputs rom map frames) × FramesRefuse (rom_on machine map all.rom_bytes) roots (of_each words_of all.frame_bytes) refusal
    × HasCause (rom_on machine map all.rom_bytes) roots (of_each words_of all.frame_bytes) refusal

-- that memory was out: without frames, it was the maker's; with frames, it may have been out as they were read, and this says nothing
abbrev pub RefusesMemory : Machine → Option (List ℕ) → MemoryMap → List (ℕ × Key) → List (Option (List ℕ)) → Type 0
RefusesMemory machine rom map roots [] = RefusesInputs machine rom map roots [] (record { call = None; why = Memory })
RefusesMemory machine rom map roots (frame ∷ frames) = Unit {0}

-- the maker refuses them with a refusal that names no frame; 63 says nothing
abbrev pub RefusesRoots : Machine → Option (List ℕ) → MemoryMap → List (ℕ × Key) → List (Option (List ℕ)) → MakeFault → Type 0
RefusesRoots machine rom map roots frames making.Memory = RefusesMemory machine rom map roots frames
RefusesRoots machine rom map roots frames f =
    (why : EntryFault) × (make_fault_of why ≡ f) × RefusesInputs machine rom map roots frames (record { call = None; why = why })

-- the ROM has its map's length, and the first frame of a wrong length is at this index, from 0
pub record WrongFrame (rom : Option (List ℕ)) (map : MemoryMap) (frames : List (Option (List ℕ))) (frame : ℕ) : Type 0 where
  pub rom_bytes : List ℕ
  pub frame_bytes : List (List ℕ)
  pub rom_held : Held rom rom_bytes
  pub frames_held : EachHeld frames frame_bytes
  pub rom_length : IsRomLength map (length rom_bytes)
  pub wrong : FirstWrong frame_bytes frame

-- what a fault says of all bytes that the readers held: the first that applies of 1, 2, and the maker's refusal
abbrev pub FramesFaultMeans : Machine → Option (List ℕ) → MemoryMap → List (ℕ × Key) → List (Option (List ℕ)) → MakeRunFault → Type 0
FramesFaultMeans machine rom map roots frames fault.RomLength =
    (bytes : List ℕ) × Held rom bytes × (IsRomLength map (length bytes) → ⊥)
FramesFaultMeans machine rom map roots frames (fault.Make f) = RefusesRoots machine rom map roots frames f
FramesFaultMeans machine rom map roots frames fault.ReadRom = Unit {0}
FramesFaultMeans machine rom map roots frames fault.Write = Unit {0}
FramesFaultMeans machine rom map roots frames (fault.FrameLength n) = WrongFrame rom map frames n
FramesFaultMeans machine rom map roots frames (fault.Call call why) =
    RefusesInputs machine rom map roots frames (record { call = Some call; why = why })
FramesFaultMeans machine rom map roots frames fault.ReadFrame = Unit {0}
