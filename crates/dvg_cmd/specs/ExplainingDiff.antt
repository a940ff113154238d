-- What a run says of two dumps of a ROM, and what it writes. All of it is this project's own.
use Rattle.std.specs.Prelude.{◌≡◌, ◌↔◌, ◌<◌, ◌≤◌, ℕ, Bool, List, [], ◌++◌, length, Option, None, IfSome, is_some}
use Rattle.std.specs.Io.KnownBytes.{Appends}
use Rattle.dvg_text.specs.Devices.{AppendsPrefix, TakesOneWrite}
use Rattle.dvg_dumps.specs.Differences.{counted}
use Rattle.dvg_dumps.specs.declared.differences.Differences.{Differences}
use Rattle.dvg_spelling.specs.Dumps.{dump_line}
use Rattle.dvg_cmd.specs.Making.{Held}

-- the numbers of bytes that a dump may have
pub record IsDumpLength (n : ℕ) : Type 0 where
  pub some : 0 < n
  pub few : n ≤ 4096

-- a reader held another number of bytes
abbrev pub IsNoDump : Option (List ℕ) → Type 0
IsNoDump reader = (bytes : List ℕ) × Held reader bytes × (IsDumpLength (length bytes) → ⊥)

-- in how much two dumps differ; none where they are equal
pub record DifferBy (good other : List ℕ) (differences : Option Differences) : Type 0 where
  pub equal : (differences ≡ None) ↔ (good ≡ other)
  pub counts : IfSome differences (λ d. d ≡ counted good other)

-- in how much the dumps differ that two readers held, and an account of it, of nothing where they are equal
pub record Told (rom other : Option (List ℕ)) : Type 0 where
  pub good : List ℕ
  pub dump : List ℕ
  pub good_held : Held rom good
  pub dump_held : Held other dump
  pub good_length : IsDumpLength (length good)
  pub dump_length : IsDumpLength (length dump)
  pub differences : Option Differences
  pub differ : DifferBy good dump differences
  pub account : List ℕ
  pub nothing : differences ≡ None → account ≡ []

-- what is written of it
abbrev pub told_text : {rom other : Option (List ℕ)} → Told rom other → List ℕ
told_text told = dump_line told.differences ++ told.account

-- it was written, by one write if it fits one, and nothing else; `writes` and `writes_after` count the writes that took their whole
-- piece
pub record TellsDifferences (rom other : Option (List ℕ)) (differ : Bool) (old new : Option (List ℕ)) (writes writes_after : ℕ) : Type
    0 where
  pub told : Told rom other
  pub differ_is : differ ≡ is_some told.differences
  pub written : Appends old new (told_text told)
  pub one_write : TakesOneWrite (told_text told) writes writes_after

-- a prefix of it was written, and nothing else
pub record TellsDifferencesPrefix (rom other : Option (List ℕ)) (old new : Option (List ℕ)) : Type 0 where
  pub told : Told rom other
  pub written : AppendsPrefix old new (told_text told)
