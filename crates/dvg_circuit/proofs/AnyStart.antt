-- A multiplier that begins at any count.
use Rattle.dvg_circuit.proofs.Common.{◌≡◌, ℕ, zero, suc, ◌+◌, ◌*◌, ◌/◌, ◌^◌, ◌≤◌, refl, ap, arith, ints, ℤ, pos, ◌+ℤ◌, nat_abs, nat_lt, List, [], ◌∷◌, if◌then◌else◌, subst, ◌∙◌, sym, ⊎_elim, ◌<◌, pulse, stepped, negsuc, pow-succ', cases_eq, nat_tests, bit, counts, pulses, signed, moved, twelve_bits, IsBetween}
use Rattle.dvg_circuit.specs.Counters.{counter_after}
use Rattle.dvg_circuit.specs.AnyStart.{pulses_from, counter_from, moved_from, IsWithin, OnePlaceEach, AxisDraw, end_of, end_from, below_nine, OnePlaceADraw, WorkedStarts}
use Rattle.dvg_circuit.proofs.Rounding.{multiplier, gated, rounded_half_up}
use Rattle.dvg_circuit.proofs.Places.{at_most_one, step_of, signed_more}

-- ---- what a multiplier lets through at counts start to start + n - 1

abbrev let_from : ℕ → ℕ → ℕ → ℕ → ℕ
let_from bits size start zero = 0
let_from bits size start (suc n) = let_from bits size start n + multiplier bits size (start + n)

multiplied : (size start n : ℕ) → let_from 10 size start n ≡ pulses_from size start n
multiplied size start zero = refl
multiplied size start (suc n) = grind (arith, nat_tests, (multiplied size start n), (gated 10 size (start + n)))

few : (bits size count : ℕ) → multiplier bits size count ≤ 1
few zero size count = omega arith
few (suc bits) size count = grind (arith, nat_tests, (few bits size (count / 2)))

-- of two counts the even one goes by the top bit, and the odd one as the bits below
pair : (bits size count : ℕ) → multiplier (suc bits) size count + multiplier (suc bits) size (suc count)
    ≡ bit bits size + multiplier bits size (count / 2)
pair bits size count = grind (arith, nat_tests)

twice : (bits size start n : ℕ) → let_from (suc bits) size start (2 * n) ≡ n * bit bits size + let_from bits size (start / 2) n
twice bits size start zero = omega arith
twice bits size start (suc n) =
    let two_more : 2 * suc n ≡ suc (suc (2 * n)) = omega arith in
    let half : (start + 2 * n) / 2 ≡ start / 2 + n = omega arith in
    grind (
      arith,
      (ap (let_from (suc bits) size start) two_more),
      (twice bits size start n),
      (pair bits size (start + 2 * n)),
      (ap (multiplier bits size) half),
    )

near : (bits size k s t : ℕ) → k ≤ bits → let_from bits size s (2 ^ k) ≤ let_from bits size t (2 ^ k) + 1
near bits size zero s t le = grind (arith, (few bits size (s + 0)))
near zero size (suc k) s t le = absurd (omega (arith, le))
near (suc bits) size (suc k) s t le =
    grind (
      arith,
      (pow-succ' 2 k),
      (twice bits size s (2 ^ k)),
      (twice bits size t (2 ^ k)),
      (near bits size k (s / 2) (t / 2) (omega (arith, le))),
    )

alike : (bits size s t : ℕ) → let_from bits size s (2 ^ bits) ≡ let_from bits size t (2 ^ bits)
alike zero size s t = refl
alike (suc bits) size s t =
    grind (arith, (pow-succ' 2 bits), (twice bits size s (2 ^ bits)), (twice bits size t (2 ^ bits)), (alike bits size (s / 2) (t / 2)))

-- ---- one draw

nearly : (size s t scale : ℕ) → pulses_from size s (counts scale) ≤ pulses_from size t (counts scale) + 1
nearly size s t scale =
    grind (
      arith,
      nat_tests,
      (multiplied size s (2 ^ (scale + 1))),
      (multiplied size t (2 ^ (scale + 1))),
      (near 10 size (scale + 1) s t),
      (cases_eq scale 9),
    )

from_zero : (size n : ℕ) → pulses_from size 0 n ≡ pulses size n
from_zero size zero = refl
from_zero size (suc n) =
    let none : 0 + n ≡ n = omega arith in
    ap (λ m. m + pulse size (0 + n)) (from_zero size n) ∙ ap (λ m. pulses size n + pulse size m) none

more : (size start scale : ℕ) → pulses_from size start (counts scale) ≤ pulses size (counts scale) + 1
more size start scale = grind (arith, (nearly size start 0 scale), (from_zero size (counts scale)))

fewer : (size start scale : ℕ) → pulses size (counts scale) ≤ pulses_from size start (counts scale) + 1
fewer size start scale = grind (arith, (nearly size 0 start scale), (from_zero size (counts scale)))

all_counts : (size s t n : ℕ) → n ≡ 2 ^ 10 → pulses_from size s n ≡ pulses_from size t n
all_counts size s t n all =
    sym (multiplied size s n) ∙ subst (λ m. let_from 10 size s m ≡ let_from 10 size t m) (sym all) (alike 10 size s t) ∙ multiplied size t n

none_over : (scale : ℕ) → 9 < scale → counts scale ≡ 0
none_over scale over = grind (arith, nat_tests)

same : (size start scale : ℕ) → 9 ≤ scale → pulses_from size start (counts scale) ≡ pulses size (counts scale)
same size start scale le =
    ⊎_elim
    (λ (nine : scale ≡ 9). all_counts size start 0 (counts scale) (subst (λ t. counts t ≡ 2 ^ 10) (sym nine) refl)
    ∙ from_zero size (counts scale))
    (λ other. subst (λ n. pulses_from size start n ≡ pulses size n) (sym (none_over scale (omega (arith, le, other)))) refl)
    (cases_eq scale 9)

more_from : (size start n all : ℕ) → n ≤ all → pulses_from size start n ≤ pulses_from size start all
more_from size start n zero le = grind (arith)
more_from size start n (suc all) le = grind (arith, (more_from size start n all), (cases_eq n (suc all)))

counter_from_zero : (size : ℤ) (counter n : ℕ) → counter_from size 0 counter n ≡ counter_after size counter n
counter_from_zero size counter zero = refl
counter_from_zero size counter (suc n) =
    let none : 0 + n ≡ n = omega arith in
    ap (stepped size (pulse (nat_abs size) (0 + n))) (counter_from_zero size counter n)
    ∙ ap (λ m. stepped size (pulse (nat_abs size) m) (counter_after size counter n)) none

counter_is : (from size : ℤ) (start n : ℕ) → counter_from size start (twelve_bits from) n ≡ twelve_bits (from +ℤ moved_from size start n)
counter_is from size start zero = ap twelve_bits (let e : from ≡ from +ℤ signed size 0 = grind (arith, ints) in e)
counter_is from size start (suc n) = grind (arith, (counter_is from size start n), step_of, at_most_one, signed_more)

between : (low high from size : ℤ) (n all : ℕ) → n ≤ all → IsBetween low high from → IsBetween low high (from +ℤ signed size all)
    → IsBetween low high (from +ℤ signed size n)
between low high from size n all le h g = grind (arith, ints)

-- places at most n apart are at most k more apart once pulses stepped them that differ by at most k
apart : (n k : ℕ) (p q size : ℤ) (a b : ℕ) → a ≤ b + k → b ≤ a + k → IsWithin n p q
    → IsWithin (n + k) (p +ℤ signed size a) (q +ℤ signed size b)
apart n k p q (pos size) a b le ge h = (omega (arith, ints, le, ge, h.0, h.1), omega (arith, ints, le, ge, h.0, h.1))
apart n k p q (negsuc size) a b le ge h = (omega (arith, ints, le, ge, h.0, h.1), omega (arith, ints, le, ge, h.0, h.1))

there : (p : ℤ) → IsWithin 0 p p
there p = (omega (arith, ints), omega (arith, ints))

pub one_place_each : OnePlaceEach
one_place_each = record {
  from_zero = from_zero;
  counter_from_zero = counter_from_zero;
  more = more;
  fewer = fewer;
  same = same;
  counter = counter_is;
  between = λ low high from size start n all le. between low high from size _ _ (more_from (nat_abs size) start n all le);
  place = λ from size start scale. apart 0 1 from from size _ _ (fewer (nat_abs size) start scale) (more (nat_abs size) start scale)
      (there from);
}

-- ---- several draws

one_draw : (n : ℕ) (p q : ℤ) (d : AxisDraw) → IsWithin n p q
    → IsWithin (n + (if nat_lt d.scale 9 then 1 else 0)) (p +ℤ moved d.size (counts d.scale))
    (q +ℤ moved_from d.size d.start (counts d.scale))
one_draw n p q d h =
    grind (
      arith,
      nat_tests,
      apart,
      (more (nat_abs d.size) d.start d.scale),
      (fewer (nat_abs d.size) d.start d.scale),
      (same (nat_abs d.size) d.start d.scale),
    )

-- places at most n apart stay within one more for each draw below scale 9
drawn : (n : ℕ) (p q : ℤ) (draws : List AxisDraw) → IsWithin n p q → IsWithin (n + below_nine draws) (end_of p draws) (end_from q draws)
drawn n p q [] h = grind (arith)
drawn n p q (d ∷ draws) h =
    let one = if nat_lt d.scale 9 then 1 else 0 in
    let sum : (n + one) + below_nine draws ≡ n + (one + below_nine draws) = omega arith in
    subst (λ m. IsWithin m (end_of p (d ∷ draws)) (end_from q (d ∷ draws))) sum (drawn (n + one) _ _ draws (one_draw n p q d h))

pub one_place_a_draw : OnePlaceADraw
one_place_a_draw from draws =
    let none : 0 + below_nine draws ≡ below_nine draws = omega arith in
    subst (λ m. IsWithin m (end_of from draws) (end_from from draws)) none (drawn 0 from from draws (there from))

-- ---- worked

pub worked_starts : WorkedStarts
worked_starts = record {
  two = refl;
  fewer = (refl, refl);
  more = (refl, refl);
  same = λ start. same 1023 start 9 (omega arith) ∙ rounded_half_up.rounds 1023 9 (omega arith) (omega arith);
}
