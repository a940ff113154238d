-- The names of a list that a reader holds. All of it is this project's own.
use Rattle.std.specs.Prelude.{◌≡◌, ◌≢◌, ◌⊎◌, ℕ, ◌-◌, ◌^◌, true, List, [], ◌∷◌, ◌++◌, take, length, Option, None, Some}
use Rattle.std.specs.Io.KnownBytes.{Consumes, IsAtEnd}
use Rattle.dvg_text.specs.Devices.{count_after}
pub use Rattle.dvg_cmd.specs.declared.names.NameEnd.{NameEnd}
use Rattle.dvg_cmd.specs.declared.names.NameEnd.TheVariants as ends

-- the byte behind each name: LF or NUL
abbrev pub end_byte : NameEnd → ℕ
end_byte ends.Line = 10
end_byte ends.Nul = 0

-- how many bytes of a name are kept at most: one past the longest
abbrev pub MOST_NAME_READ : ℕ
MOST_NAME_READ = 4097

-- how many bytes are looked at for the byte behind a name, more than a list has
abbrev pub MOST_BYTES_READ : ℕ
MOST_BYTES_READ = 2 ^ 64 - 1

-- none of these bytes is this one
abbrev pub Lacks : ℕ → List ℕ → Type 0
Lacks end [] = Unit {0}
Lacks end (byte ∷ bytes) = (byte ≢ end) × Lacks end bytes

-- a name was read with the byte behind it, or a last one that is not empty and has none behind it
pub record ReadsName (end : ℕ) (old new : Option (List ℕ)) (name : List ℕ) : Type 0 where
  pub bytes : List ℕ
  pub lacks : Lacks end bytes
  pub kept : name ≡ take MOST_NAME_READ bytes
  pub read : Consumes old new (bytes ++ end ∷ []) ⊎ (Consumes old new bytes × IsAtEnd new × (bytes ≢ []))

-- so many bytes were read, none of which is the byte behind a name
pub record IsUnended (end : ℕ) (old new : Option (List ℕ)) : Type 0 where
  pub bytes : List ℕ
  pub lacks : Lacks end bytes
  pub read : Consumes old new bytes
  pub many : length bytes ≡ MOST_BYTES_READ

-- the next name was read, or the list was at its end
abbrev pub ReadsNext : ℕ → Option (List ℕ) → Option (List ℕ) → Option (List ℕ) → Type 0
ReadsNext end old new (Some name) = ReadsName end old new name
ReadsNext end old new None = Consumes old new [] × IsAtEnd new

-- why no name was read: a read failed, or there are bytes without end and the count of failures is as it was
abbrev pub FailsName : ℕ → Option (List ℕ) → Option (List ℕ) → ℕ → ℕ → Type 0
FailsName end old new failures failures_after =
    (failures_after ≡ count_after true failures) ⊎ ((failures_after ≡ failures) × IsUnended end old new)
