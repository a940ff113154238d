-- Two dumps as far as both go. All of it is this project's own.
use Rattle.std.specs.Prelude.{ℕ, Bool, true, false, not, zero, suc, List, Option, None, Some, length, min, ◌+◌, ◌*◌, ◌%◌, ◌==◌, ◌&&◌, ◌||◌, slice_get, count_ones, bit_xor}
use Rattle.dvg_dumps.specs.Lines.{has_level, is_high}
use Rattle.dvg_dumps.specs.declared.lines.Level.{Level}
use Rattle.dvg_dumps.specs.declared.measuring.Measure.{Measure}
use Rattle.dvg_dumps.specs.declared.measuring.Measure.TheVariants.{Bytes, Words, Bits, Lost, Gained}

-- how many bytes both have
abbrev pub front : List ℕ → List ℕ → ℕ
front good other = min (length good) (length other)

-- p holds of each number below this one
abbrev pub all_below : (ℕ → Bool) → ℕ → Bool
all_below p zero = true
all_below p (suc n) = all_below p n && p n

-- p holds of one of them
abbrev pub any_below : (ℕ → Bool) → ℕ → Bool
any_below p zero = false
any_below p (suc n) = any_below p n || p n

-- the sum over the numbers below this one
abbrev pub sum_below : (ℕ → ℕ) → ℕ → ℕ
sum_below f zero = 0
sum_below f (suc n) = sum_below f n + f n

-- these two bytes differ, if there are both
abbrev pub differ : Option ℕ → Option ℕ → Bool
differ (Some x) (Some y) = not (x == y)
differ x y = false

-- in how many bits they do
abbrev pub bits : Option ℕ → Option ℕ → ℕ
bits (Some x) (Some y) = count_ones (bit_xor x y)
bits x y = 0

-- a line is high in the first and low in the second
abbrev pub falls : ℕ → Option ℕ → Option ℕ → Bool
falls line (Some x) (Some y) = is_high x line && not (is_high y line)
falls line x y = false

-- the dumps differ at an address
abbrev pub differs_at : List ℕ → List ℕ → ℕ → Bool
differs_at good other at = differ (slice_get good at) (slice_get other at)

-- they differ in the word whose low byte has this address
abbrev pub word_differs : List ℕ → List ℕ → ℕ → Bool
word_differs good other at = differs_at good other at || differs_at good other (at + 1)

-- what counts once
abbrev pub once : Bool → ℕ
once true = 1
once false = 0

-- what is counted at an address; a word counts at the address of its low byte
abbrev pub measured : Measure → List ℕ → List ℕ → ℕ → ℕ
measured Bytes good other at = once (differs_at good other at)
measured Words good other at = once ((at % 2 == 0) && word_differs good other at)
measured Bits good other at = bits (slice_get good at) (slice_get other at)
measured (Lost line) good other at = once (falls line (slice_get good at) (slice_get other at))
measured (Gained line) good other at = once (falls line (slice_get other at) (slice_get good at))

-- in all of the front
abbrev pub count : Measure → List ℕ → List ℕ → ℕ
count m good other = sum_below (measured m good other) (front good other)

-- where the dumps differ, the address line has this level
abbrev pub level_if_different : List ℕ → List ℕ → ℕ → Level → ℕ → Bool
level_if_different good other line level at = not (differs_at good other at) || has_level at line level

-- everywhere in the front
abbrev pub is_level_where_different : List ℕ → List ℕ → ℕ → Level → Bool
is_level_where_different good other line level = all_below (level_if_different good other line level) (front good other)

-- the word at an index, the low byte first, if both bytes are there
abbrev pub word_from : Option ℕ → Option ℕ → Option ℕ
word_from (Some low) (Some high) = Some (low + 256 * high)
word_from low high = None

abbrev pub word_at : List ℕ → ℕ → Option ℕ
word_at bytes index = word_from (slice_get bytes (2 * index)) (slice_get bytes (2 * index + 1))
