-- Which lines the form allows at a place of a certificate's text, and where a line leaves the form.
use Rattle.std.specs.Prelude.{◌≡◌, ℕ, ◌+◌, ◌≤◌, ◌⊎◌, List, ◌++◌, take, length}
use Rattle.dvg_words.specs.Values.{MemoryMap}
use Rattle.dvg_text.specs.Grammar.{first_version_line, second_version_line, rom_line, ended}
use Rattle.dvg_text.specs.Reading.{Line, IsLine, IsElsewhere}

-- the first lines that the form allows, without their end (profile)
abbrev pub IsFirstLine : List ℕ → Type 0
IsFirstLine line = (line ≡ first_version_line) ⊎ (line ≡ second_version_line)

-- the second lines of version 2 (profile)
abbrev pub IsRomLine : List ℕ → Type 0
IsRomLine line = (map : MemoryMap) × IsElsewhere map × (line ≡ rom_line map)

-- the later lines, over a ROM at this map: an entry's or the last one (profile)
abbrev pub IsLaterLine : MemoryMap → List ℕ → Type 0
IsLaterLine map line = (l : Line) × IsLine map.rom_first map.rom_last l line

-- the bytes are the front of an allowed line with its end
abbrev pub IsFront : (List ℕ → Type 0) → List ℕ → Type 0
IsFront IsAllowed bytes = (line : List ℕ) × (rest : List ℕ) × IsAllowed line × (bytes ++ rest ≡ ended line)

-- the bytes of a line before a column, counted from 1, are such a front (profile)
pub record IsAllowedBefore (IsAllowed : List ℕ → Type 0) (line : List ℕ) (column : ℕ) : Type 0 where
  pub before : ℕ
  pub counted : column ≡ before + 1
  pub inside : before ≤ length line
  pub front : IsFront IsAllowed (take before line)
