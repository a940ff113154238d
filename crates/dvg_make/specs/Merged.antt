-- Two lists of entries as one. All of it is this project's own.
use Rattle.std.specs.Option.{option_or}
use Rattle.std.specs.Prelude.{List, length, ℕ, ◌+◌, ◌≡◌, ◌≤◌}
use Rattle.dvg_cert.specs.Lookup.{entry_at}
use Rattle.dvg_cert.specs.Order.{IsRising}
use Rattle.dvg_cert.specs.declared.entry.Entry.{Entry}
use Rattle.dvg_cert.specs.declared.entry.Key.{Key}

-- the entries of both lists, in the order of a certificate; where both have one, that of the first
pub record IsMerged (first second merged : List Entry) : Type 0 where
  pub rising : IsRising merged
  pub found : (addr : ℕ) (key : Key) → entry_at merged addr key ≡ option_or (entry_at first addr key) (entry_at second addr key)
  pub few : length merged ≤ length first + length second
