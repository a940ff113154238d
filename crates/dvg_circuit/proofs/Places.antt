-- The counters hold the twelve bits of the places that they pass.
use Rattle.dvg_circuit.proofs.Common.{pulse, ◌≡◌, ℕ, zero, suc, ◌+◌, ◌≤◌, ap, arith, ℤ, ◌+ℤ◌, ints, stepped, signed, twelve_bits, CounterIsPlace}

pub at_most_one : (size count : ℕ) → pulse size count ≤ 1
at_most_one size count = grind (arith)

pub step_of : (size at : ℤ) (p : ℕ) → p ≤ 1 → stepped size p (twelve_bits at) ≡ twelve_bits (at +ℤ signed size p)
step_of size at p le = grind (arith, ints)

pub signed_more : (from size : ℤ) (a b : ℕ) → (from +ℤ signed size a) +ℤ signed size b ≡ from +ℤ signed size (a + b)
signed_more from size a b = grind (arith, ints)

pub counter_is_place : CounterIsPlace
counter_is_place from size zero = ap twelve_bits (let e : from ≡ from +ℤ signed size 0 = grind (arith, ints) in e)
counter_is_place from size (suc n) = grind (arith, (counter_is_place from size n), step_of, at_most_one, signed_more)
