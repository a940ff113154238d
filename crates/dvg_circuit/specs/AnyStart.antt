-- Draws that the rate multipliers begin at any count. The circuit has each begin at count 0, as MAME's DVG does. Of a count a pulse
-- takes the lowest ten bits alone, so a start is any number.
use Rattle.std.specs.Prelude.{◌≡◌, ℕ, zero, suc, ℤ, pos, neg_ℤ, nat_abs, nat_lt, if◌then◌else◌, ◌+◌, ◌≤◌, ◌+ℤ◌, List, [], ◌∷◌}
use Rattle.dvg_circuit.specs.Counters.{pulse, pulses, stepped, counts, counter_after}
use Rattle.dvg_circuit.specs.Laws.{signed, moved, twelve_bits, IsBetween}

-- ---- one draw

-- the pulses of a size at counts start to start + n - 1
abbrev pub pulses_from : ℕ → ℕ → ℕ → ℕ
pulses_from size start zero = 0
pulses_from size start (suc n) = pulses_from size start n + pulse size (start + n)

-- a counter after n counts of a draw, the first of them this one
abbrev pub counter_from : ℤ → ℕ → ℕ → ℕ → ℕ
counter_from size start counter zero = counter
counter_from size start counter (suc n) = stepped size (pulse (nat_abs size) (start + n)) (counter_from size start counter n)

-- how far n counts move an axis, the first of them this one
abbrev pub moved_from : ℤ → ℕ → ℕ → ℤ
moved_from size start n = signed size (pulses_from (nat_abs size) start n)

-- q is at most n more or less than p
abbrev pub IsWithin : ℕ → ℤ → ℤ → Type 0
IsWithin n p q = IsBetween (p +ℤ neg_ℤ (pos n)) (p +ℤ pos n) q

-- a draw from any start ends at most one place from where it ends from 0, and just there at an effective scale of 9 and above
pub record OnePlaceEach : Type 0 where
  -- from 0 it is the draw of the circuit
  pub from_zero : (size n : ℕ) → pulses_from size 0 n ≡ pulses size n
  pub counter_from_zero : (size : ℤ) (counter n : ℕ) → counter_from size 0 counter n ≡ counter_after size counter n
  -- at most one pulse more or fewer
  pub more : (size start scale : ℕ) → pulses_from size start (counts scale) ≤ pulses size (counts scale) + 1
  pub fewer : (size start scale : ℕ) → pulses size (counts scale) ≤ pulses_from size start (counts scale) + 1
  pub same : (size start scale : ℕ) → 9 ≤ scale → pulses_from size start (counts scale) ≡ pulses size (counts scale)
  -- the counter holds the twelve bits of a place, at every count, and that lies between the two ends
  pub counter :
      (from size : ℤ) (start n : ℕ)
      → counter_from size start (twelve_bits from) n ≡ twelve_bits (from +ℤ moved_from size start n)
  pub between :
      (low high from size : ℤ) (start n all : ℕ) → n ≤ all → IsBetween low high from
      → IsBetween low high (from +ℤ moved_from size start all)
      → IsBetween low high (from +ℤ moved_from size start n)
  -- the end is at most one place away
  pub place :
      (from size : ℤ) (start scale : ℕ)
      → IsWithin 1 (from +ℤ moved size (counts scale)) (from +ℤ moved_from size start (counts scale))

-- ---- several draws

-- a draw on one axis: its size, its effective scale, and the count at which the multipliers begin it
pub record AxisDraw : Type 0 where
  pub size : ℤ
  pub scale : ℕ
  pub start : ℕ

-- where draws end, each from count 0
abbrev pub end_of : ℤ → List AxisDraw → ℤ
end_of from [] = from
end_of from (d ∷ draws) = end_of (from +ℤ moved d.size (counts d.scale)) draws

-- where draws end, each from its start
abbrev pub end_from : ℤ → List AxisDraw → ℤ
end_from from [] = from
end_from from (d ∷ draws) = end_from (from +ℤ moved_from d.size d.start (counts d.scale)) draws

-- how many draws have an effective scale below 9
abbrev pub below_nine : List AxisDraw → ℕ
below_nine [] = 0
below_nine (d ∷ draws) = (if nat_lt d.scale 9 then 1 else 0) + below_nine draws

-- they end at most so many places from where they end from 0
abbrev pub OnePlaceADraw : Type 0
OnePlaceADraw = (from : ℤ) (draws : List AxisDraw) → IsWithin (below_nine draws) (end_of from draws) (end_from from draws)

-- ---- worked

-- at scale 0 a size of 256 has its one pulse at a count that ends in one 1, a size of 128 at one that ends in two
pub record WorkedStarts : Type 0 where
  pub two : counts 0 ≡ 2
  pub fewer : (pulses_from 256 0 2 ≡ 1) × (pulses_from 256 2 2 ≡ 0)
  pub more : (pulses_from 128 0 2 ≡ 0) × (pulses_from 128 2 2 ≡ 1)
  -- at scale 9 it is the same from any start
  pub same : (start : ℕ) → pulses_from 1023 start (counts 9) ≡ 1023
