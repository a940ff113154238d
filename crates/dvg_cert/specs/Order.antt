-- The order of entries, and which lists of entries are a certificate's.
use Rattle.std.specs.Prelude.{◌≡◌, ◌<◌, ◌≤◌, ◌⊎◌, List, [], ◌∷◌, length}
use Rattle.std.specs.List.{AllByRecursion}
use Rattle.dvg_words.specs.Values.{MemoryMap, IsMap}
use Rattle.dvg_cert.specs.Limits.{MOST_ENTRIES}
use Rattle.dvg_cert.specs.Entry.{Entry, Key, At, Any, IsEntry}

-- the order of keys: any stands after 15 (profile)
abbrev pub KeyBefore : Key → Key → Type 0
KeyBefore (At m) (At n) = m < n
KeyBefore (At m) Any = Unit {0}
KeyBefore Any key = ⊥

-- the order of entries: by address, then by key (profile)
abbrev pub Before : Entry → Entry → Type 0
Before e f = (e.addr < f.addr) ⊎ ((e.addr ≡ f.addr) × KeyBefore e.key f.key)

-- each entry comes before the next one
abbrev pub IsRising : List Entry → Type 0
IsRising [] = Unit {0}
IsRising (e ∷ []) = Unit {0}
IsRising (e ∷ f ∷ es) = Before e f × IsRising (f ∷ es)

-- the entry comes after the last of these (profile)
abbrev pub StandsAfter : List Entry → Entry → Type 0
StandsAfter [] e = Unit {0}
StandsAfter (f ∷ []) e = Before f e
StandsAfter (f ∷ g ∷ es) e = StandsAfter (g ∷ es) e

-- a certificate: the map of its ROM, and its entries (profile)
pub record Certificate : Type 0 where
  pub map : MemoryMap
  pub entries : List Entry

-- the entries of a certificate for a ROM at this map (profile)
pub record IsCertificate (map : MemoryMap) (es : List Entry) : Type 0 where
  pub map_is : IsMap map
  pub each : AllByRecursion (IsEntry map.rom_first map.rom_last) es
  pub rising : IsRising es
  pub few : length es ≤ MOST_ENTRIES
