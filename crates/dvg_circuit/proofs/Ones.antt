-- In how many ones a count ends, as the code counts them.
use Rattle.dvg_circuit.proofs.Common.{◌≡◌, ℕ, zero, suc, ◌/◌, ◌<◌, refl, subst, sym, ◌∙◌, ⊎_elim, arith, if◌then◌else◌, nat_tests, nat_lt, cases_eq, bit_at_lowest, bit_at-suc, bit_at-trailing_ones, ending_ones, let_through, pulse}
use Rattle.std.specs.Int.{bit_at, trailing_ones, w16}

-- the count's bits below b are ones
abbrev Ones : ℕ → ℕ → Type 0
Ones count b = (i : ℕ) → i < b → bit_at count i ≡ 1

-- of its lowest bits alone
ends : (bits count b : ℕ) → bit_at count b ≡ 0 → Ones count b → ending_ones bits count ≡ (if nat_lt b bits then b else bits)
ends zero count b z h = grind (arith, nat_tests)
ends (suc bits) count zero z h = grind (arith, nat_tests, (bit_at_lowest count))
ends (suc bits) count (suc b) z h =
    let halved =
    ends bits (count / 2) b (sym (bit_at-suc count b) ∙ z) (λ i lt. sym (bit_at-suc count i) ∙ h (suc i) (omega (arith, lt))) in
    grind (arith, nat_tests, halved, (bit_at_lowest count), (h 0 (omega arith)))

pub counted_ones : (size count : ℕ) → count < 65536 → pulse size count ≡ let_through size (trailing_ones w16 count)
unfolding lib.Count.count_trailing_zeros
counted_ones size count fits =
    ⊎_elim
    (λ (most : count ≡ 65535). subst (λ n. pulse size n ≡ let_through size (trailing_ones w16 n)) (sym most) refl)
    (λ less. let t = bit_at-trailing_ones w16 count (omega (arith, fits, less)) in
    grind (arith, nat_tests, (ends 10 count (trailing_ones w16 count) t.1 t.2)))
    (cases_eq count 65535)
