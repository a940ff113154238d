-- Entries that are made one after another. All of it is this project's own.
use Rattle.std.specs.Prelude.{◌≡◌, ℕ, List, Some}
use Rattle.dvg_words.specs.Memory.{Rom}
use Rattle.dvg_cert.specs.declared.entry.Entry.{Entry}
use Rattle.dvg_cert.specs.declared.entry.Key.{Key}
use Rattle.dvg_cert.specs.Lookup.{entry_at}

-- a ROM, and the entries that are made for it
pub record MadeSoFar : Type 0 where
  pub rom : Rom
  pub list : List Entry

-- the second list has all entries of the first
abbrev pub HasAllOf : List Entry → List Entry → Type 0
HasAllOf a b = (addr : ℕ) (key : Key) (e : Entry) → entry_at a addr key ≡ Some e → entry_at b addr key ≡ Some e
