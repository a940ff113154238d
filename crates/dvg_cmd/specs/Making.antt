-- What a run of the maker says of the bytes that its reader held, and what it writes. All of it is this project's own.
use Rattle.std.specs.Prelude.{◌≡◌, ℕ, Bool, true, false, List, length, Option, IfSome, Result, Err}
use Rattle.std.specs.Io.KnownBytes.{Appends}
use Rattle.dvg_words.specs.declared.machine.Machine.{Machine}
use Rattle.dvg_words.specs.Values.{MemoryMap}
use Rattle.dvg_words.specs.Memory.{rom_on, IsRomLength}
use Rattle.dvg_cert.specs.declared.entry.Entry.{Entry}
use Rattle.dvg_cert.specs.declared.entry.Key.{Key}
use Rattle.dvg_text.specs.Grammar.{text_of}
use Rattle.dvg_text.specs.Devices.{AppendsPrefix}
use Rattle.dvg_make.specs.Made.{Made}
use Rattle.dvg_make.specs.Refusals.{Refuses}
use Rattle.dvg_make.specs.Accounts.{HasRootCause}
pub use Rattle.dvg_spelling.specs.declared.fault.MakeRunFault.{MakeRunFault}
use Rattle.dvg_spelling.specs.declared.fault.MakeRunFault.TheVariants as fault

-- ---- which device an answer blames

-- the answer blames the ROM's reader
abbrev pub blames_frames_rom : {A : Type 0} → Result A MakeRunFault → Bool
blames_frames_rom (Err fault.ReadRom) = true
blames_frames_rom answer = false

-- the answer blames a frame's reader
abbrev pub blames_a_frame : {A : Type 0} → Result A MakeRunFault → Bool
blames_a_frame (Err fault.ReadFrame) = true
blames_a_frame answer = false

-- the answer blames the writer
abbrev pub blames_frames_writer : {A : Type 0} → Result A MakeRunFault → Bool
blames_frames_writer (Err fault.Write) = true
blames_frames_writer answer = false

-- ---- what is answered

-- these are all bytes that a reader held; any bytes, if they are not known
abbrev pub Held : Option (List ℕ) → List ℕ → Type 0
Held reader bytes = IfSome reader (λ held. bytes ≡ held)

-- the list is made for a ROM at this map, with all bytes that its reader held
pub record Makes (machine : Machine) (rom : Option (List ℕ)) (map : MemoryMap) (roots : List (ℕ × Key)) (list : List Entry) : Type 0 where
  pub rom_bytes : List ℕ
  pub held : Held rom rom_bytes
  pub rom_length : IsRomLength map (length rom_bytes)
  pub made : Made (rom_on machine map rom_bytes) roots list

-- the text of a list with this property was written, and nothing else
pub record WritesMade (IsMade : List Entry → Type 0) (map : MemoryMap) (old new : Option (List ℕ)) : Type 0 where
  pub list : List Entry
  pub made : IsMade list
  pub written : Appends old new (text_of map list)

-- a prefix of the text of such a list was written, and nothing else
pub record WritesMadePrefix (IsMade : List Entry → Type 0) (map : MemoryMap) (old new : Option (List ℕ)) : Type 0 where
  pub list : List Entry
  pub made : IsMade list
  pub written : AppendsPrefix old new (text_of map list)

-- what a fault says of all bytes that the ROM's reader held: their length is wrong, or the maker refuses them, with a cause; none is a
-- frame's
abbrev pub MakeFaultMeans : Machine → Option (List ℕ) → MemoryMap → List (ℕ × Key) → MakeRunFault → Type 0
MakeFaultMeans machine rom map roots fault.RomLength = (bytes : List ℕ) × Held rom bytes × (IsRomLength map (length bytes) → ⊥)
MakeFaultMeans machine rom map roots (fault.Make f) = (bytes : List ℕ) × Held rom bytes × IsRomLength map (length bytes)
    × Refuses (rom_on machine map bytes) roots f × HasRootCause (rom_on machine map bytes) roots f
MakeFaultMeans machine rom map roots fault.ReadRom = Unit {0}
MakeFaultMeans machine rom map roots fault.Write = Unit {0}
MakeFaultMeans machine rom map roots f = ⊥
