-- A pass over a ROM, from its last word to its first: what it keeps for word addresses and keys, and boxes seen from before an item.
use Rattle.std.specs.Prelude.{◌≡◌, ◌+ℤ◌, ℕ, List, Option, Some, None, slice_index_or}
use Rattle.dvg_words.specs.declared.beam.Point.{Point}
use Rattle.dvg_cert.specs.declared.entry.Key.{Key}
use Rattle.dvg_cert.specs.declared.entry.Key.TheVariants.{At, Any}
use Rattle.dvg_cert.specs.declared.entry.LitBox.{LitBox}
use Rattle.dvg_cert.specs.declared.entry.LitBox.TheVariants.{Empty, Span}
pub use Rattle.dvg_check.specs.declared.keys.Keys.{Keys}
pub use Rattle.dvg_check.specs.declared.slots.Kept.{Kept}

-- the number of a key, 0 to 16
abbrev pub key_number : Key → ℕ
key_number (At scale) = scale
key_number Any = 16

-- a number of the set, which falls with each key that is taken out
abbrev pub set_number : Keys → ℕ
set_number keys = keys.bits

-- some slot holds this
abbrev pub IsKept : {T : Type 0} → List (Option (Kept T)) → Kept T → Type 0
IsKept slots kept = (k : ℕ) × (slice_index_or slots k None ≡ Some kept)

-- each value that is kept is so, for its word address and its key
abbrev pub AllKept : {T : Type 0} → (ℕ → Key → T → Type 0) → List (Option (Kept T)) → Type 0
AllKept P slots = (kept : Kept _) → IsKept slots kept → P kept.addr kept.key kept.value

-- a box, moved
abbrev pub moved : LitBox → Point → LitBox
moved Empty d = Empty
moved (Span x_min x_max y_min y_max) d = Span (x_min +ℤ d.x) (x_max +ℤ d.x) (y_min +ℤ d.y) (y_max +ℤ d.y)
