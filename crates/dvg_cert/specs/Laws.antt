-- The law of look-ups, for every map of a ROM.
use Rattle.std.specs.Prelude.{ℕ, List, IfSome, IfNone}
use Rattle.dvg_words.specs.Values.{MemoryMap}
use Rattle.dvg_cert.specs.Entry.{Entry, Key}
use Rattle.dvg_cert.specs.Order.{IsCertificate}
use Rattle.dvg_cert.specs.Lookup.{entry_at, IsOnlyAt, HasNoneAt}

-- an entry found at an address and key of a certificate is the only one there; if none is found, there is none
abbrev pub OnlyEntry : Type 0
OnlyEntry = (map : MemoryMap) (es : List Entry) (addr : ℕ) (key : Key) → IsCertificate map es
    → IfSome (entry_at es addr key) (IsOnlyAt es addr key) × IfNone (entry_at es addr key) (HasNoneAt es addr key)
