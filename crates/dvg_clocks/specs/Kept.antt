-- What is kept of the shapes of a certificate: their clocks. All of it is this project's own.
-- no instruction takes more clocks for each of its words: 1,024 counts, and states of sixteen bits
use Rattle.std.specs.Map.{lookup}
use Rattle.std.specs.Prelude.{Contains, List, Option, Some, cond, unwrap_or, ℕ, ◌&&◌, ◌*◌, ◌==◌, ◌≡◌, ◌≤◌}
use Rattle.dvg_words.specs.Memory.{Rom}
use Rattle.dvg_cert.specs.Lookup.{same_key}
use Rattle.dvg_cert.specs.declared.entry.Entry.{Entry}
use Rattle.dvg_cert.specs.declared.entry.Key.{Key}
use Rattle.dvg_clocks.specs.Forecasts.{clocks_known, just}
use Rattle.dvg_clocks.specs.Sums.{sum_of}
use Rattle.dvg_clocks.specs.declared.clocks.ClockRange.{ClockRange}
use Rattle.dvg_clocks.specs.declared.clocks.States.{States}

abbrev pub WORD_CLOCKS : ℕ
WORD_CLOCKS = 66559

-- clocks, each with the address and key of an entry
abbrev pub Kept : Type 0
Kept = List ((ℕ × Key) × ClockRange)

-- the clocks that are kept at an address and key
abbrev pub found_at : Kept → ℕ → Key → Option ClockRange
found_at kept addr key = lookup (λ p. (addr == p.0) && same_key key p.1) kept

-- what the shape of an entry takes by what is kept; nothing if nothing is
abbrev pub clocks_in : Kept → Entry → ClockRange
clocks_in kept e = unwrap_or (found_at kept e.addr e.key) (just 0)

-- the clocks of an entry's shape are kept, too, and nothing else has changed
abbrev pub IsKeptToo : Entry → ClockRange → Kept → Kept → Type 0
IsKeptToo e clocks old new =
    (addr : ℕ) (key : Key) → found_at new addr key ≡ cond ((e.addr == addr) && same_key e.key key) (Some clocks) (found_at old addr key)

-- what is kept of an entry is a range, of no more than so many clocks for each word
pub record IsFewFor (kept : Kept) (e : Entry) : Type 0 where
  pub ordered : (clocks_in kept e).least ≤ (clocks_in kept e).most
  pub few : (clocks_in kept e).most ≤ WORD_CLOCKS * e.words

-- of each entry of the list
abbrev pub AreAllFew : Kept → List Entry → Type 0
AreAllFew kept list = (e : Entry) → Contains list e → IsFewFor kept e

-- what is kept of an entry is the sum of its shape
pub record IsToldOf (t : States) (rom : Rom) (list : List Entry) (kept : Kept) (e : Entry) : Type 0 where
  pub told : found_at kept e.addr e.key ≡ Some (sum_of (clocks_known t) rom list e)
  pub few : IsFewFor kept e

-- of each entry of the list
abbrev pub AreTold : States → Rom → List Entry → Kept → Type 0
AreTold t rom list kept = (e : Entry) → Contains list e → IsToldOf t rom list kept e
