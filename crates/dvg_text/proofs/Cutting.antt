-- Cutting bytes at a byte.
use Rattle.dvg_text.proofs.Common.{◌≡◌, ℕ, zero, suc, ◌+◌, ◌<◌, ◌≤◌, false, List, [], ◌∷◌, ◌++◌, length, get_or, take, drop, take-length, Option, Some, None, refl, sym, ap, subst, ◌∙◌, arith, ◌==◌, position, position_or_len, add-one, drop-cons, eqb-true, take-append-drop, get_or-take, length-take-le, nat_tests, Without}
use Rattle.std.proofs.lemmas.List.Sums.{fails_before_first, position_or_len_is}
use Rattle.std.proofs.lemmas.List.Quantifiers.{position-Some}
use Rattle.memchr.specs.Find.{IsFirstByte, is_byte}

-- the byte is at none of the first places
free : (c n : ℕ) (xs : List ℕ) → n ≤ length xs → ((k : ℕ) → k < n → (get_or xs k 0 == c) ≡ false) → Without c (take n xs)
free c zero xs le none = tt
free c (suc n) [] le none = tt
free c (suc n) (x ∷ xs) le none = (none 0 (omega arith), free c n xs (omega arith) (λ k lt. none (suc k) (omega arith)))

pub free_none : (c : ℕ) (xs : List ℕ) → position (λ b. b == c) xs ≡ None → Without c xs
free_none c xs e =
    let far : length xs ≤ position_or_len (λ b. b == c) xs = grind (arith, nat_tests) in
    subst (Without c) (take-length xs)
    (free c (length xs) xs (omega arith) (λ k lt. fails_before_first (λ b. b == c) xs k 0 (omega (arith, far))))

-- where the byte stands first, looked for in the prefix alone
pub found_in_prefix : (c n : ℕ) (xs : List ℕ) (i : ℕ) → n ≤ length xs → position (λ b. b == c) (take n xs) ≡ Some i
    → (xs ≡ take i xs ++ c ∷ drop (i + 1) xs) × Without c (take i xs) × (i < n)
found_in_prefix c n xs i le e =
    let p = position-Some (λ b. b == c) (take n xs) i 0 e in
    let lt : i < n = omega (arith, p.0, length-take-le n xs le) in
    let at : get_or xs i 0 ≡ c = sym (get_or-take n xs i 0 lt) ∙ eqb-true (get_or (take n xs) i 0) c p.1 in (
      sym (take-append-drop i xs) ∙ rw (drop-cons xs i 0 (omega arith), at, add-one) refl,
      free c i xs (omega arith) (λ k less. ap (λ (b : ℕ). b == c) (sym (get_or-take n xs k 0 (omega arith))) ∙ p.2 k less),
      lt,
    )

-- the same in all bytes
pub found_at : (c : ℕ) (xs : List ℕ) (i : ℕ) → position (λ b. b == c) xs ≡ Some i → (xs ≡ take i xs ++ c ∷ drop (i + 1) xs)
    × Without c (take i xs) × (i < length xs)
found_at c xs i e = found_in_prefix c (length xs) xs i (omega arith) (ap (position (λ b. b == c)) (take-length xs) ∙ e)

-- what memchr finds
pub first_byte : (c : ℕ) (xs : List ℕ) (r : Option ℕ) → IsFirstByte (is_byte c) xs r → r ≡ position (λ b. b == c) xs
first_byte c xs None h =
    grind (
      arith,
      nat_tests,
      (position_or_len_is (λ b. b == c) xs (length xs) 0 (omega arith)
          (λ k lt. grind (arith, (h k (omega arith) lt))) (λ lt. absurd (omega arith))),
    )
first_byte c xs (Some i) h =
    grind (
      arith,
      nat_tests,
      (h.0.high),
      (position_or_len_is (λ b. b == c) xs i 0 (omega (arith, h.0.high)) (λ k lt. grind (arith, (h.0.before k (omega arith) lt)))
          (λ lt. h.1)),
    )
