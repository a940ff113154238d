-- Digits among the lanes of a vector.
use Rattle.dvg_text.proofs.Common.{◌≡◌, ℕ, suc, ◌+◌, ◌-◌, ◌%◌, ◌^◌, ◌<◌, ◌≤◌, Bool, true, false, not, eqb, ltb, leb, cond, List, [], ◌∷◌, map, length, take, drop, get_or, replicate, refl, ap, ◌∙◌, arith, one-add, agree_below_at, nat_tests, length-map, prefix_len, digit_value, AllDigits, NoDigitFirst}
use Rattle.std.proofs.lemmas.List.Sums.{prefix_len-le-length}
use Rattle.std.proofs.lemmas.Simd.{mask_l-mod, first_set_mask_l, zip2_splat, zip2_splat_left, map-map}
use lib.Lanes.{mask_l, zip2, top}
use lib.Count.{count_trailing_zeros}

-- the byte is no digit
abbrev pub other : ℕ → Bool
other x = leb 10 ((x + 208) % 256)

is_other : (x : ℕ) → x < 256 → other x ≡ not (ltb (digit_value x) 10)
is_other x lt = agree_below_at other (λ y. not (ltb (digit_value y) 10)) 256 x refl lt

-- before the first other byte there are digits alone
abbrev run_len : List ℕ → ℕ
run_len xs = prefix_len (λ x. not (other x)) xs

abbrev IsRun : List ℕ → ℕ → Type 0
IsRun xs n = AllDigits 10 (take n xs) × NoDigitFirst (drop n xs)

step : (t : Bool) (x : ℕ) (xs : List ℕ) → x < 256 → other x ≡ t → IsRun xs (run_len xs) → IsRun (x ∷ xs) (cond (not t) (1 + run_len xs) 0)
step true x xs lt e rest = (tt, λ small. absurd (grind (arith, nat_tests, is_other x lt, e)))
step false x xs lt e rest = rw (one-add (run_len xs)) ((grind (arith, nat_tests, is_other x lt, e), rest.0), rest.1)

pub run : (xs : List ℕ) → ((k : ℕ) → get_or xs k 0 < 256) → IsRun xs (run_len xs)
run [] h = (tt, tt)
run (x ∷ xs) h = step (other x) x xs (h 0) refl (run xs (λ k. h (suc k)))

-- ---- the mask of a load

abbrev lane : ℕ → ℕ
lane x = cond (leb 10 ((x + 208) % 256)) 255 0

tops : (b : Bool) → top 7 (cond b 255 0) ≡ b
tops b = grind (arith)

all_tops : (xs : List ℕ) → map (top 7) (map lane xs) ≡ map other xs
all_tops [] = refl
all_tops (x ∷ xs) = λ i. tops (other x) i ∷ all_tops xs i

abbrev minus : ℕ → ℕ → ℕ
minus x y = (x + (256 - y)) % 256

abbrev at_most : ℕ → ℕ → ℕ
at_most x y = cond (leb x y) 255 0

lanes_are : (xs : List ℕ) → length xs ≡ 16 → zip2 at_most (replicate 16 10) (zip2 minus xs (replicate 16 48)) ≡ map lane xs
lanes_are xs long =
    ap (zip2 at_most (replicate 16 10)) (zip2_splat minus xs 16 48 long)
    ∙ zip2_splat_left at_most 10 16 (map (λ x. minus x 48) xs) (length-map xs (λ x. minus x 48) ∙ long)
    ∙ map-map (at_most 10) (λ x. minus x 48) xs

pub counted : (xs : List ℕ) (n : ℕ) → length xs ≡ 16
    → n ≡ cond (eqb (mask_l (map (top 7) (zip2 at_most (replicate 16 10) (zip2 minus xs (replicate 16 48)))) % 2 ^ 64) 0) 16
    (count_trailing_zeros 64 (mask_l (map (top 7) (zip2 at_most (replicate 16 10) (zip2 minus xs (replicate 16 48)))) % 2 ^ 64))
    → n ≡ run_len xs
counted xs n long e =
    let mask : mask_l (map (top 7) (zip2 at_most (replicate 16 10) (zip2 minus xs (replicate 16 48)))) % 2 ^ 64 ≡ mask_l (map other xs) =
    ap (λ l. mask_l (map (top 7) l) % 2 ^ 64) (lanes_are xs long) ∙ ap (λ l. mask_l l % 2 ^ 64) (all_tops xs)
    ∙ mask_l-mod (map other xs) 64 (omega (arith, length-map xs other, long)) in
    e ∙ ap (λ m. cond (eqb m 0) 16 (count_trailing_zeros 64 m)) mask ∙ first_set_mask_l other xs 16 long (omega arith)

pub lanes : (xs : List ℕ) (n : ℕ) → length xs ≡ 16 → ((k : ℕ) → get_or xs k 0 < 256)
    → n ≡ cond (eqb (mask_l (map (top 7) (zip2 at_most (replicate 16 10) (zip2 minus xs (replicate 16 48)))) % 2 ^ 64) 0) 16
    (count_trailing_zeros 64 (mask_l (map (top 7) (zip2 at_most (replicate 16 10) (zip2 minus xs (replicate 16 48)))) % 2 ^ 64))
    → (n ≤ 16) × IsRun xs n
lanes xs n long bytes e =
    let c = counted xs n long e in (omega (arith, c, prefix_len-le-length (λ x. not (other x)) xs), rw c (run xs bytes))
