-- The number that digits in the bytes of a word write.
use Rattle.std.specs.Str.Parse.{digits_value_after}
use Rattle.dvg_text.proofs.Common.{take-add, ◌≡◌, ℕ, zero, suc, ◌+◌, ◌-◌, ◌*◌, ◌/◌, ◌%◌, ◌^◌, ◌<◌, ◌≤◌, List, [], ◌∷◌, ◌++◌, map, replicate, length, length-append, take, drop, subst, drop-cons, length-drop, refl, sym, ap, ◌∙◌, arith, digit_value, AllDigits, digits_value, take-take, length-take-le, get_or-take, length-replicate, digit_value_digit, digit_from_value, digits_value_short, NoDigitFirst, rules, common_steps, and_block, and_mask}
use Rattle.std.specs.List.{slice_index}
use Rattle.std.specs.Int.Bits.{bit_and}
use Rattle.std.proofs.lemmas.Nat.{mul-mod_first, pow-add}
use Rattle.std.proofs.Math.Nat.{add-mul, add-mul-mod_self_right, mul_assoc, pow-succ'}
use Rattle.std.proofs.Math.Pow.{shl_exact}
use Rattle.dvg_text.proofs.Digits.{own}

-- eight numbers as the bytes of a word, the first in the lowest
abbrev word_of : ℕ → ℕ → ℕ → ℕ → ℕ → ℕ → ℕ → ℕ → ℕ
word_of a b c d e f g h = a + 256 * (b + 256 * (c + 256 * (d + 256 * (e + 256 * (f + 256 * (g + 256 * h))))))

-- ---- the number of eight values

-- each value, with ten times the one before it
abbrev sums : ℕ → ℕ
sums w = w * 2561 % 2 ^ 64 / 256

sums_are : (a b c d e f g h w : ℕ) → a < 10 → b < 10 → c < 10 → d < 10 → e < 10 → f < 10 → g < 10 → h < 10 → w ≡ word_of a b c d e f g h
    → sums w ≡ word_of (10 * a + b) (10 * b + c) (10 * c + d) (10 * d + e) (10 * e + f) (10 * f + g) (10 * g + h) 0
sums_are a b c d e f g h w A B C D E F G H is = omega arith

-- every second byte
abbrev Seconds : ℕ
Seconds = 71777214294589695

low_byte : (x y z : ℕ) → x < 65536 → bit_and (y * 2 ^ 16 + x) (z * 2 ^ 16 + 255) ≡ bit_and y z * 2 ^ 16 + x % 2 ^ 8
low_byte x y z lt = and_block 16 y z x 255 lt (omega arith) ∙ ap (λ (r : ℕ). bit_and y z * 2 ^ 16 + r) (and_mask x 8)

low_bytes : (x y z u : ℕ) → x < 65536 → y < 65536 → z < 65536
    → bit_and (((u * 2 ^ 16 + z) * 2 ^ 16 + y) * 2 ^ 16 + x) Seconds
    ≡ ((u % 2 ^ 8 * 2 ^ 16 + z % 2 ^ 8) * 2 ^ 16 + y % 2 ^ 8) * 2 ^ 16 + x % 2 ^ 8
low_bytes x y z u X Y Z = low_byte x ((u * 2 ^ 16 + z) * 2 ^ 16 + y) 1095233372415 X
    ∙ ap (λ (r : ℕ). r * 2 ^ 16 + x % 2 ^ 8) (low_byte y (u * 2 ^ 16 + z) 16711935 Y
    ∙ ap (λ (r : ℕ). r * 2 ^ 16 + y % 2 ^ 8) (low_byte z u 255 Z
    ∙ ap (λ (r : ℕ). r * 2 ^ 16 + z % 2 ^ 8) (and_mask u 8)))

seconds_of : (a b c d e f g h w : ℕ) → a < 256 → b < 256 → c < 256 → d < 256 → e < 256 → f < 256 → g < 256 → h < 256
    → w ≡ word_of a b c d e f g h
    → bit_and w Seconds ≡ word_of a 0 c 0 e 0 g 0
seconds_of a b c d e f g h w A B C D E F G H is =
    let parts : w ≡ (((g + 256 * h) * 2 ^ 16 + (e + 256 * f)) * 2 ^ 16 + (c + 256 * d)) * 2 ^ 16 + (a + 256 * b) = omega arith in
    ap (λ (x : ℕ). bit_and x Seconds) parts
    ∙ low_bytes (a + 256 * b) (c + 256 * d) (e + 256 * f) (g + 256 * h) (omega arith) (omega arith) (omega arith) ∙ omega arith

-- each pair, with a hundred times the one before it
abbrev fours : ℕ → ℕ
fours w = w * 6553601 % 2 ^ 64 / 65536

fours_are : (a c e g w : ℕ) → a < 100 → c < 100 → e < 100 → g < 100 → w ≡ word_of a 0 c 0 e 0 g 0
    → (fours w % 65536 ≡ 100 * a + c) × (fours w / 2 ^ 32 ≡ 100 * e + g)
fours_are a c e g w A C E G is = (omega arith, omega arith)

abbrev number : ℕ → ℕ
number w = fours (bit_and (sums w) Seconds) % 65536 * 10000 + fours (bit_and (sums w) Seconds) / 2 ^ 32

number_is : (a b c d e f g h w : ℕ) → a < 10 → b < 10 → c < 10 → d < 10 → e < 10 → f < 10 → g < 10 → h < 10 → w ≡ word_of a b c d e f g h
    → number w ≡ ((10 * a + b) * 100 + (10 * c + d)) * 10000 + ((10 * e + f) * 100 + (10 * g + h))
number_is a b c d e f g h w A B C D E F G H is =
    let all = sums_are a b c d e f g h w A B C D E F G H is in
    let pairs = seconds_of (10 * a + b) (10 * b + c) (10 * c + d) (10 * d + e) (10 * e + f) (10 * f + g) (10 * g + h) 0 (sums w)
    (omega arith) (omega arith) (omega arith) (omega arith) (omega arith) (omega arith) (omega arith) (omega arith) all in
    let at = fours_are (10 * a + b) (10 * c + d) (10 * e + f) (10 * g + h) (bit_and (sums w) Seconds) (omega arith) (omega arith)
    (omega arith) (omega arith) pairs in
    rw (at.0, at.1) (omega arith)

-- ---- of bytes

-- bytes as a number, the first the lowest
abbrev word : List ℕ → ℕ
word [] = 0
word (x ∷ xs) = x + 256 * word xs

-- the number of bytes before which there are more, all 0
abbrev shifted : ℕ → ℕ → ℕ
shifted zero v = v
shifted (suc k) v = 256 * shifted k v

abbrev values : ℕ → List ℕ → ℕ
values n xs = word (map digit_value (take n xs))

-- with 1 more, what takes 48 off each of so many bytes
abbrev zeros : ℕ → ℕ
zeros zero = 0
zeros (suc k) = 207 + 256 * zeros k

parts : (n j : ℕ) (xs : List ℕ) → n ≤ length xs → AllDigits 10 (take n xs)
    → (word xs + zeros (n + j) + 1 ≡ values n xs + shifted n (word (drop n xs) + zeros j + 1)) × (values n xs < shifted n 1)
parts zero j xs le ds = (omega (arith, ap zeros {x = 0 + j} {y = j} (omega arith)), omega arith)
parts (suc n) j [] le ds = absurd (omega arith)
parts (suc n) j (x ∷ xs) le ds =
    let r = parts n j xs (omega arith) ds.1 in (
      omega (arith, digit_value_digit x (digit_from_value x ds.0), r.0, ap zeros {x = suc n + j} {y = suc (n + j)} (omega arith)),
      omega (arith, ds.0, r.1),
    )

abbrev little : List ℕ → ℕ
little xs = slice_index xs 0 + slice_index xs 1 * 256 + slice_index xs 2 * 65536 + slice_index xs 3 * 16777216 + slice_index xs 4 *
    4294967296
    + slice_index xs 5 * 1099511627776 + slice_index xs 6 * 281474976710656 + slice_index xs 7 * 72057594037927936

little_is : (xs : List ℕ) → length xs ≡ 8 → little xs ≡ word xs
little_is xs long = grind (arith, rules, common_steps)

abbrev Zeros : ℕ
Zeros = 14974415777481871312

abbrev moved : ℕ → ℕ → ℕ
moved count w = (w + Zeros) % 2 ^ 64 * 2 ^ (64 - 8 * count) % 2 ^ 64

shifted_is : (k j v : ℕ) → j ≡ 8 * k → shifted k v ≡ v * 2 ^ j
shifted_is zero j v is = rw is (omega arith)
shifted_is (suc k) j v is =
    let pow : 2 ^ j ≡ 256 * 2 ^ (8 * k) =
    ap (λ (i : ℕ). 2 ^ i) {y = 8 + 8 * k} (omega (arith, is)) ∙ pow-add 2 8 (8 * k) in rw pow (omega (arith, shifted_is k (8 * k) v refl))

-- the digits, moved up behind zeros
moved_is : (k v t w : ℕ) → k ≤ 8 → v < shifted k 1 → w + Zeros ≡ v + shifted k t → moved k w ≡ shifted (8 - k) v
moved_is k v t w few lt is =
    let a : ℕ = 8 * k in
    let b : ℕ = 64 - 8 * k in
    let all : 2 ^ a * 2 ^ b ≡ 2 ^ 64 = sym (pow-add 2 a b) ∙ ap (λ (i : ℕ). 2 ^ i) {y = 64} (omega arith) in
    let spread : (v + t * 2 ^ a) * 2 ^ b ≡ v * 2 ^ b + t * 2 ^ 64 = grind (arith, all) in
    rw (is, shifted_is k a t refl) (mul-mod_first (v + t * 2 ^ a) (2 ^ b) (2 ^ 64)) ∙ ap (λ (x : ℕ). x % 2 ^ 64) spread
    ∙ add-mul-mod_self_right (v * 2 ^ b) t (2 ^ 64)
    ∙ shl_exact a b 64 (omega (arith, lt, shifted_is k a 1 refl)) (omega arith) ∙ sym (shifted_is (8 - k) b v (omega arith))

-- zeros before the digits
padded : (k : ℕ) (ds : List ℕ) → AllDigits 10 ds → AllDigits 10 (replicate k 48 ++ ds)
    × (word (map digit_value (replicate k 48 ++ ds)) ≡ shifted k (word (map digit_value ds)))
    × (digits_value 10 (replicate k 48 ++ ds) ≡ digits_value 10 ds)
padded zero ds all = (all, refl, refl)
padded (suc k) ds all = let r = padded k ds all in ((omega arith, r.0), omega (arith, r.1), r.2)

number_of : (xs : List ℕ) (w : ℕ) → length xs ≡ 8 → AllDigits 10 xs → w ≡ word (map digit_value xs) → number w ≡ digits_value 10 xs
number_of (a ∷ b ∷ c ∷ d ∷ e ∷ f ∷ g ∷ h ∷ []) w long (A, (B, (C, (D, (E, (F, (G, (H, _)))))))) is =
    number_is _ _ _ _ _ _ _ _ w A B C D E F G H (omega (arith, is)) ∙ omega arith
number_of xs w long ds is = absurd (omega arith)

pub value_of : (xs : List ℕ) (count w : ℕ) → length xs ≡ 8 → 1 ≤ count → count ≤ 8 → AllDigits 10 (take count xs) → w ≡ little xs
    → number (moved count w) ≡ digits_value 10 (take count xs)
value_of xs count w long some few ds is =
    let p = padded (8 - count) (take count xs) ds in
    let q = parts count (8 - count) xs (omega arith) ds in
    let all : zeros (count + (8 - count)) ≡ zeros 8 = ap zeros {y = 8} (omega arith) in
    let full : length (replicate (8 - count) 48 ++ take count xs) ≡ 8 =
    simp (length-append, length-replicate) (omega (arith, length-take-le count xs (omega arith))) in
    let up = moved_is count (values count xs) (word (drop count xs) + zeros (8 - count) + 1) w few q.1
    (omega (arith, is, little_is xs long, q.0, all)) in
    number_of (replicate (8 - count) 48 ++ take count xs) (moved count w) full p.0 (up ∙ sym p.1) ∙ p.2

-- ---- more than eight digits

both_digits : (xs ys : List ℕ) → AllDigits 10 (xs ++ ys) → AllDigits 10 xs × AllDigits 10 ys
both_digits [] ys h = (tt, h)
both_digits (x ∷ xs) ys h = let r = both_digits xs ys h.1 in ((h.0, r.0), r.1)

-- digits after a number
after : (n : ℕ) (ds : List ℕ) → digits_value_after 10 n ds ≡ n * 10 ^ length ds + digits_value 10 ds
after n [] = omega arith
after n (d ∷ ds) =
    let p : ℕ = 10 ^ length ds in
    omega (
      arith,
      after (n * 10 + digit_value d) ds,
      after (0 * 10 + digit_value d) ds,
      add-mul (n * 10) (digit_value d) p,
      mul_assoc n 10 p,
      ap (λ (x : ℕ). n * x) (pow-succ' 10 (length ds)),
    )

after_both : (n : ℕ) (xs ys : List ℕ)
    → digits_value_after 10 n (xs ++ ys) ≡ digits_value_after 10 n xs * 10 ^ length ys + digits_value 10 ys
after_both n [] ys = after n ys
after_both n (x ∷ xs) ys = after_both (n * 10 + digit_value x) xs ys

pub first_digits : (n : ℕ) (xs ys : List ℕ) → n ≤ 8 → ys ≡ take 8 (drop 0 xs) → take n ys ≡ take n xs
first_digits n xs ys le e = ap (take n) e ∙ take-take n 8 xs le

-- the first of some digits, and the last eight
pub halves : (count : ℕ) (xs : List ℕ) → 8 ≤ count → count ≤ 16 → count ≤ length xs → AllDigits 10 (take count xs)
    → AllDigits 10 (take (count - 8) (take 8 (drop 0 xs))) × AllDigits 10 (take 8 (take 8 (drop (count - 8) xs)))
    × (digits_value 10 (take (count - 8) (take 8 (drop 0 xs))) < 100000000)
    × (digits_value 10 (take 8 (take 8 (drop (count - 8) xs))) < 100000000)
    × (digits_value 10 (take count xs)
    ≡ digits_value 10 (take (count - 8) (take 8 (drop 0 xs))) * 100000000 + digits_value 10 (take 8 (take 8 (drop (count - 8) xs))))
halves count xs more few le h =
    let k : ℕ = count - 8 in
    let whole : take count xs ≡ take k (take 8 xs) ++ take 8 (take 8 (drop k xs)) =
    ap (λ (n : ℕ). take n xs) {y = k + 8} (omega arith) ∙ take-add k 8 xs
    ∙ rw (take-take k 8 xs (omega arith), take-take 8 8 (drop k xs) (omega arith)) refl in
    let d = both_digits (take k (take 8 xs)) (take 8 (take 8 (drop k xs))) (subst (AllDigits 10) whole h) in
    let eight : length (take 8 (take 8 (drop k xs))) ≡ 8 = grind (arith, take-take, length-take-le, length-drop) in
    let short : length (take k (take 8 xs)) ≤ 8 = grind (arith, take-take, length-take-le) in (
      d.0,
      d.1,
      digits_value_short own (take k (take 8 xs)) 8 d.0 short,
      digits_value_short own (take 8 (take 8 (drop k xs))) 8 d.1 (omega (arith, eight)),
      ap (digits_value 10) whole ∙ rw eight at (after_both 0 (take k (take 8 xs)) (take 8 (take 8 (drop k xs)))),
    )

-- ---- the digits among the first sixteen bytes

pub window_ends : (n : ℕ) (xs : List ℕ) → 16 ≤ length xs → n < 16 → NoDigitFirst (drop n (take 16 xs)) → NoDigitFirst (drop n xs)
window_ends n xs long lt h = grind (arith, (length-take-le 16 xs long), (get_or-take 16 xs n 0 lt), drop-cons, digit_value)
