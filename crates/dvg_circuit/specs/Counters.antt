-- What steps the two position counters: on each axis two rate multipliers in cascade let pulses through to an up/down counter of
-- twelve bits (Asteroids schematics).
use Rattle.std.specs.Prelude.{◌≡◌, ℕ, zero, suc, ℤ, pos, negsuc, ◌+◌, ◌-◌, ◌/◌, ◌%◌, ◌^◌, ◌==◌, nat_le, nat_abs, if◌then◌else◌, List, [], ◌∷◌, ◌++◌}
use Rattle.dvg_words.specs.Values.{DrawFields}
pub use Rattle.dvg_circuit.specs.declared.counters.Counters.{Counters}

-- bit b of a number, 0 or 1
abbrev pub bit : ℕ → ℕ → ℕ
bit b n = n / 2 ^ b % 2

-- ---- pulses

-- in how many ones a count ends, of its lowest bits alone
abbrev pub ending_ones : ℕ → ℕ → ℕ
ending_ones zero count = 0
ending_ones (suc bits) count = if count % 2 == 0 then 0 else suc (ending_ones bits (count / 2))

-- at a count that ends in b ones the size's bit 9 - b lets the pulse through, and from ten ones on nothing does (7497 data sheet)
abbrev pub let_through : ℕ → ℕ → ℕ
let_through size b = if nat_le b 9 then bit (9 - b) size else 0

-- the pulse of a size at a count: 1, or 0 for none
abbrev pub pulse : ℕ → ℕ → ℕ
pulse size count = let_through size (ending_ones 10 count)

-- the pulses of a size at counts 0 to n - 1: each draw begins at 0 (MAME's DVG)
abbrev pub pulses : ℕ → ℕ → ℕ
pulses size zero = 0
pulses size (suc n) = pulses size n + pulse size n

-- for how many counts the vector timer runs, by the effective scale (MAME's DVG)
abbrev pub counts : ℕ → ℕ
counts scale = if nat_le scale 9 then 2 ^ (scale + 1) else 0

-- ---- counters

-- so many pulses step a counter up, or down if the size's sign is minus; it wraps at twelve bits (Asteroids schematics)
abbrev pub stepped : ℤ → ℕ → ℕ → ℕ
stepped (pos size) pulses counter = (counter + pulses) % 4096
stepped (negsuc size) pulses counter = (counter + (4096 - pulses)) % 4096

-- a counter after n counts of a draw
abbrev pub counter_after : ℤ → ℕ → ℕ → ℕ
counter_after size counter zero = counter
counter_after size counter (suc n) = stepped size (pulse (nat_abs size) n) (counter_after size counter n)

-- both counters after n counts of a draw
abbrev pub counters_after : DrawFields → Counters → ℕ → Counters
counters_after d c n = record { x = counter_after d.dx c.x n; y = counter_after d.dy c.y n }

-- the counters at counts 0 to n of a draw
abbrev pub passed : DrawFields → Counters → ℕ → List Counters
passed d c zero = c ∷ []
passed d c (suc n) = passed d c n ++ counters_after d c (suc n) ∷ []

-- bit 10 of either counter blanks the beam (Asteroids schematics)
pub record IsShown (c : Counters) : Type 0 where
  pub x : bit 10 c.x ≡ 0
  pub y : bit 10 c.y ≡ 0
