-- Addresses and keys of entries, alone and in pairs with an entry.
use Rattle.std.specs.Prelude.{◌≡◌, ℕ, List, map}
use Rattle.std.specs.List.{All}
use Rattle.dvg_cert.specs.Entry.{Entry, Key, At, Any, IsClaim}
use Rattle.dvg_cert.specs.declared.hash_index.AddressKey.{AddressKey}

-- the address and key of each entry, in their order
abbrev pub own_keys : List Entry → List AddressKey
own_keys es = map (λ e. record { addr = e.addr; key = e.key }) es

-- the entry stands at its own address and key, and is within the limits
abbrev pub IsOwn : (ℕ × Key) × Entry → Type 0
IsOwn p = (p.0 ≡ (p.1.addr, p.1.key)) × IsClaim p.1

-- each entry stands at its own address and key, and is within the limits
abbrev pub IsKeyed : List ((ℕ × Key) × Entry) → Type 0
IsKeyed ps = All IsOwn ps

-- a key as the one byte that is hashed
abbrev pub hashed_number : Key → ℕ
hashed_number (At scale) = scale
hashed_number Any = 16
