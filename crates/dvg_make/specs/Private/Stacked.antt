-- The shapes in the making, in pairs with their addresses and keys.
use Rattle.std.specs.Prelude.{◌≡◌, ℕ}
use Rattle.dvg_cert.specs.declared.entry.Key.{Key}
use Rattle.dvg_make.specs.declared.partial.PartialEntry.{PartialEntry}

-- the shape stands at its own address and key
abbrev pub IsOwnPartial : (ℕ × Key) × PartialEntry → Type 0
IsOwnPartial p = p.0 ≡ (p.1.addr, p.1.key)
