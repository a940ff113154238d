-- The words of byte lists, and which word the generator fetches at a word address.
use Rattle.std.specs.Prelude.{◌≡◌, ◌≤◌, ◌<◌, ℕ, ◌+◌, ◌-◌, ◌*◌, ◌%◌, nat_le, nat_lt, ◌&&◌, List, [], ◌∷◌, length, slice_get, Option, None, if◌then◌else◌}
use Rattle.dvg_words.specs.Values.{RAM_WORDS, MemoryMap, IsMap, Machine, Profile, Source}

-- two bytes to a word, the low byte at the even address (Asteroids schematics); a last byte alone is no word
abbrev pub words_of : List ℕ → List ℕ
words_of [] = []
words_of (low ∷ []) = []
words_of (low ∷ high ∷ bytes) = (low + 256 * high) ∷ words_of bytes

-- the number of bytes of a ROM: two for each of its addresses
abbrev pub IsRomLength : MemoryMap → ℕ → Type 0
IsRomLength map n = n + 2 * map.rom_first ≡ 2 * (map.rom_last + 1)

-- the numbers of bytes that a frame may have (profile)
pub record IsFrameLength (n : ℕ) : Type 0 where
  pub some : 2 ≤ n
  pub few : n ≤ 2 * RAM_WORDS
  pub even : n % 2 ≡ 0

-- a frame has 1 to 1024 words (profile), which are words of vector RAM, 000 to 3FF (Asteroids schematics)
pub record IsFrame (frame : List ℕ) : Type 0 where
  pub some : 1 ≤ length frame
  pub few : length frame ≤ RAM_WORDS

-- a vector ROM: where it lies, the machine that runs it, and its words
pub record Rom : Type 0 where
  pub map : MemoryMap
  pub machine : Machine
  pub words : List ℕ

-- a ROM has a word for each of its addresses
pub record IsRom (rom : Rom) : Type 0 where
  pub map : IsMap rom.map
  pub filled : rom.map.rom_first + length rom.words ≡ rom.map.rom_last + 1

-- the ROM of these bytes on a machine
abbrev pub rom_on : Machine → MemoryMap → List ℕ → Rom
rom_on machine map bytes = record { map = map; machine = machine; words = words_of bytes }

-- the same on the profile's machine
abbrev pub rom_of : MemoryMap → List ℕ → Rom
rom_of map bytes = rom_on Profile map bytes

-- all that the generator can fetch
pub record Memory : Type 0 where
  pub frame : List ℕ
  pub rom : Rom

-- the frame and the ROM are allowed ones
pub record IsMemory (m : Memory) : Type 0 where
  pub frame : IsFrame m.frame
  pub rom : IsRom m.rom

-- the word address is in the frame
abbrev pub InFrame : List ℕ → ℕ → Type 0
InFrame frame p = p < length frame

-- the word address is in the ROM
abbrev pub InRom : MemoryMap → ℕ → Type 0
InRom map p = (map.rom_first ≤ p) × (p ≤ map.rom_last)

-- a frame, and the machine that runs it
pub record FrameOn : Type 0 where
  pub machine : Machine
  pub frame : List ℕ

-- a frame's words, by their addresses
abbrev pub frame_word : Machine → List ℕ → Source
frame_word machine frame = record { machine = machine; word = λ p. slice_get frame p }

-- the word of the ROM at an address
abbrev pub word_of_rom : Rom → ℕ → Option ℕ
word_of_rom rom p = if nat_le rom.map.rom_first p && nat_le p rom.map.rom_last then slice_get rom.words (p - rom.map.rom_first) else None

-- a ROM's words, by their addresses
abbrev pub rom_word : Rom → Source
rom_word rom = record { machine = rom.machine; word = λ p. word_of_rom rom p }

-- the word that is fetched at an address: the frame's, else the ROM's (Asteroids schematics), else none (profile)
abbrev pub fetched_at : Memory → ℕ → Option ℕ
fetched_at m p = if nat_lt p (length m.frame) then slice_get m.frame p else word_of_rom m.rom p

-- all words that can be fetched, by their addresses
abbrev pub word_at : Memory → Source
word_at m = record { machine = m.rom.machine; word = λ p. fetched_at m p }
