-- The entry of a list at an address and a key, and the entry that a call names.
use Rattle.std.specs.Prelude.{◌≡◌, ℕ, ◌==◌, ◌&&◌, Bool, true, false, List, Option, find, Contains}
use Rattle.std.specs.Option.{option_or}
use Rattle.dvg_cert.specs.Entry.{Entry, Key, At, Any}

-- the keys are the same
abbrev pub same_key : Key → Key → Bool
same_key (At m) (At n) = m == n
same_key (At m) Any = false
same_key Any (At n) = false
same_key Any Any = true

-- the entry has this address and key
abbrev pub is_at : ℕ → Key → Entry → Bool
is_at addr key e = (addr == e.addr) && same_key key e.key

-- the first entry at this address and key; in a rising list the only one
abbrev pub entry_at : List Entry → ℕ → Key → Option Entry
entry_at list addr key = find (is_at addr key) list

-- the entry is in the list at this address and key, and no other is
abbrev pub IsOnlyAt : List Entry → ℕ → Key → Entry → Type 0
IsOnlyAt list addr key e = Contains list e × (e.addr ≡ addr) × (e.key ≡ key)
    × ((f : Entry) → Contains list f → f.addr ≡ addr → f.key ≡ key → f ≡ e)

-- no entry of the list is at this address and key
abbrev pub HasNoneAt : List Entry → ℕ → Key → Type 0
HasNoneAt list addr key = (f : Entry) → Contains list f → f.addr ≡ addr → f.key ≡ key → ⊥

-- the entry that a call names by its address and the known scale, `Any` if it is unknown: the entry at exactly this scale, or else
-- the one at any scale (profile)
abbrev pub named_entry : List Entry → ℕ → Key → Option Entry
named_entry list addr scale = option_or (entry_at list addr scale) (entry_at list addr Any)
