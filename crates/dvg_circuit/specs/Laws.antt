-- The laws of pulses and counters, and of decoding, over the definitions alone.
use Rattle.std.specs.Prelude.{◌≡◌, ℕ, ℤ, pos, negsuc, neg_ℤ, nat_abs, ◌+◌, ◌-◌, ◌*◌, ◌/◌, ◌^◌, ◌%◌, ◌≤◌, ◌<◌, ◌+ℤ◌, ◌≤ℤ◌, Some}
use Rattle.dvg_words.specs.declared.machine.Machine.TheVariants.{Board}
use Rattle.dvg_words.specs.declared.instruction.Instr.{Instr}
use Rattle.dvg_words.specs.Decoding.{instruction_of}
use Rattle.dvg_circuit.specs.Counters.{bit, pulses, counts, counter_after}

-- ---- places without bounds

-- so many pulses as a move, up or down by the sign of the size
abbrev pub signed : ℤ → ℕ → ℤ
signed (pos size) pulses = pos pulses
signed (negsuc size) pulses = neg_ℤ (pos pulses)

-- how far n counts move an axis
abbrev pub moved : ℤ → ℕ → ℤ
moved size n = signed size (pulses (nat_abs size) n)

-- the twelve bits of a whole number, in two's complement
abbrev pub twelve_bits : ℤ → ℕ
twelve_bits (pos n) = n % 4096
twelve_bits (negsuc n) = 4095 - n % 4096

-- the number is from the one to the other
abbrev pub IsBetween : ℤ → ℤ → ℤ → Type 0
IsBetween low high p = (low ≤ℤ p) × (p ≤ℤ high)

-- ---- laws

-- a draw's pulses are its size by 2 ^ (scale + 1) / 1024, rounded half up; none over scale 9
pub record RoundedHalfUp : Type 0 where
  pub rounds : (size scale : ℕ) → size ≤ 1023 → scale ≤ 9 → pulses size (counts scale) ≡ (size * 2 ^ (scale + 1) + 512) / 1024
  pub stays : (size scale : ℕ) → 9 < scale → pulses size (counts scale) ≡ 0

-- an axis passes no place beyond the two ends of a draw
abbrev pub NoneBeyondEnds : Type 0
NoneBeyondEnds =
    (low high from size : ℤ) (n all : ℕ) → n ≤ all → IsBetween low high from → IsBetween low high (from +ℤ moved size all)
    → IsBetween low high (from +ℤ moved size n)

-- a counter holds the twelve bits of the place without bounds, at every count
abbrev pub CounterIsPlace : Type 0
CounterIsPlace = (from size : ℤ) (n : ℕ) → counter_after size (twelve_bits from) n ≡ twelve_bits (from +ℤ moved size n)

-- a place of the screen is shown as itself, and no other place of -1024 to 2047 is shown: bit 10 is set
pub record Blanking : Type 0 where
  pub shown : (p : ℕ) → p ≤ 1023 → (twelve_bits (pos p) ≡ p) × (bit 10 (twelve_bits (pos p)) ≡ 0)
  pub beyond : (p : ℕ) → 1024 ≤ p → p ≤ 2047 → bit 10 (twelve_bits (pos p)) ≡ 1
  pub below : (p : ℕ) → 1 ≤ p → p ≤ 1024 → bit 10 (twelve_bits (neg_ℤ (pos p))) ≡ 1

-- two places of -1024 to 2047 never share their twelve bits
abbrev pub NoSharedBits : Type 0
NoSharedBits =
    (p q : ℤ) → IsBetween (neg_ℤ (pos 1024)) (pos 2047) p → IsBetween (neg_ℤ (pos 1024)) (pos 2047) q
    → twelve_bits p ≡ twelve_bits q → p ≡ q

-- each two words are an instruction of the board
abbrev pub AllDecoded : Type 0
AllDecoded = (first second : ℕ) → (i : Instr) × (instruction_of Board first second ≡ Some i)
