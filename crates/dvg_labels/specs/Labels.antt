-- The labels of words, and what they name.
use Rattle.std.specs.Prelude.{◌≡◌, ◌≢◌, ℕ, ◌+◌, ◌-◌, ◌/◌, ◌%◌, ◌<◌, ◌≤◌, Bool, ◌&&◌, ◌||◌, ◌==◌, nat_le, nat_lt, if◌then◌else◌, List, [], ◌∷◌, ◌++◌, length, Contains, Option, Some, None, Result, Ok, Err, true, false}
use Rattle.std.specs.List.{All}
use Rattle.dvg_labels.specs.Limits.{RAM_WORDS, MEMORY_LAST, MOST_LABELS}
pub use Rattle.dvg_labels.specs.declared.labels.Label.{Label}
use Rattle.dvg_labels.specs.declared.labels.Nearest.{Nearest}
use Rattle.dvg_labels.specs.declared.fault.Unnamed.{Unnamed}
use Rattle.dvg_labels.specs.declared.fault.Unnamed.TheVariants as unnamed

-- a name, and the word address at which its label stands
pub record Named : Type 0 where
  pub name : List ℕ
  pub addr : ℕ

-- the labels of words, in the file's order, and how many labels name none
pub record Labelling : Type 0 where
  pub named : List Named
  pub passed : ℕ

-- a label, as its name and its word address
abbrev pub named_of : Label → Named
named_of label = record { name = label.name.items; addr = label.addr }

-- the word of a processor's byte address, two bytes a word from 4000 on: words 000 to BFF are bytes 4000 to 57FF; none outside of
-- these or at an odd address (Asteroids schematics)
abbrev pub word_of : Option ℕ → Option ℕ
word_of None = None
word_of (Some byte) =
    if nat_le 16384 byte && (nat_le ((byte - 16384) / 2) MEMORY_LAST && ((byte % 2) == 0)) then Some ((byte - 16384) / 2) else None

-- a label may name an address from its own on, in vector RAM or past it, as its own is (profile)
abbrev pub may_name : ℕ → ℕ → Bool
may_name at addr = nat_le addr at && (nat_lt at RAM_WORDS || nat_le RAM_WORDS addr)

-- the label that names an address: of those that may, the first of the greatest addresses; the distance is in words (profile)
pub record Names (labels : List Named) (at : ℕ) (name : List ℕ) (distance : ℕ) : Type 0 where
  pub before : List Named
  pub addr : ℕ
  pub after : List Named
  pub listed : labels ≡ before ++ record { name = name; addr = addr } ∷ after
  pub may : may_name at addr ≡ true
  pub near : at ≡ addr + distance
  pub below : All (λ (l : Named). may_name at l.addr ≡ true → l.addr < addr) before
  pub behind : All (λ (l : Named). may_name at l.addr ≡ true → l.addr ≤ addr) after

-- the label that names an address, or none
abbrev pub IsNearest : List Named → ℕ → Option Nearest → Type 0
IsNearest labels at None = All (λ (l : Named). may_name at l.addr ≡ false) labels
IsNearest labels at (Some n) = Names labels at n.name.now n.distance

-- all labels with a name stand at one address
abbrev pub StandsAt : List Named → List ℕ → ℕ → Type 0
StandsAt labels name addr =
    Contains labels (record { name = name; addr = addr }) × All (λ (l : Named). l.name ≡ name → l.addr ≡ addr) labels

-- labels with a name stand at two addresses
pub record StandsAtTwo (labels : List Named) (name : List ℕ) : Type 0 where
  pub one : ℕ
  pub other : ℕ
  pub differ : one ≢ other
  pub at_one : Contains labels (record { name = name; addr = one })
  pub at_other : Contains labels (record { name = name; addr = other })

-- where the label with a name stands
abbrev pub IsAddress : List Named → List ℕ → Result ℕ Unnamed → Type 0
IsAddress labels name (Ok addr) = StandsAt labels name addr
IsAddress labels name (Err unnamed.Unknown) = All (λ (l : Named). l.name ≢ name) labels
IsAddress labels name (Err unnamed.Several) = StandsAtTwo labels name

-- where a label with a name stands of those that were looked at
abbrev pub IsFound : List Named → List ℕ → Option ℕ → Type 0
IsFound labels name (Some addr) = StandsAt labels name addr
IsFound labels name None = All (λ (l : Named). l.name ≢ name) labels

-- so many labels are no more than the most
abbrev pub IsLabelling : Labelling → Type 0
IsLabelling l = length l.named + l.passed ≤ MOST_LABELS

-- how many labels there are, those that name no word among them
abbrev pub total : Labelling → ℕ
total known = length known.named + known.passed

-- one more label, at this word if it names one
abbrev pub add : Labelling → List ℕ → Option ℕ → Labelling
add known name None = record { named = known.named; passed = known.passed + 1 }
add known name (Some addr) = record { named = known.named ++ record { name = name; addr = addr } ∷ []; passed = known.passed }
