-- Records of one length, one behind another in an input, each of which is a frame. All of it is this project's own.
use Rattle.std.specs.Prelude.{◌≡◌, ◌≢◌, ◌<◌, ◌⊎◌, ℕ, List, [], ◌++◌, codes, decimal, length, true, Option}
use Rattle.std.specs.Io.KnownBytes.{Consumes, IsAtEnd}
use Rattle.dvg_text.specs.Devices.{count_after}
pub use Rattle.dvg_cmd.specs.declared.records.Record.{Record}
use Rattle.dvg_cmd.specs.declared.records.Record.TheVariants as found

-- the name of the record with this number of an input with this name
abbrev pub record_name : List ℕ → ℕ → List ℕ
record_name input number = input ++ codes "#" ++ decimal number

-- the input was read to its end, and has fewer bytes than a record, but some
pub record EndsInRecord (count : ℕ) (old new : Option (List ℕ)) : Type 0 where
  pub bytes : List ℕ
  pub read : Consumes old new bytes
  pub some : bytes ≢ []
  pub few : length bytes < count
  pub end : IsAtEnd new

-- the next record of so many bytes was read and nothing behind it; or the input ends within it, or a read failed; or there is none
abbrev pub ReadsRecord : ℕ → Option (List ℕ) → Option (List ℕ) → ℕ → ℕ → Record → Type 0
ReadsRecord count old new failures failures_after (found.Whole bytes) =
    Consumes old new bytes.items × (length bytes.items ≡ count) × (failures_after ≡ failures)
ReadsRecord count old new failures failures_after found.Cut =
    ((failures_after ≡ failures) × EndsInRecord count old new) ⊎ (failures_after ≡ count_after true failures)
ReadsRecord count old new failures failures_after found.End = Consumes old new [] × IsAtEnd new × (failures_after ≡ failures)
