-- A field that is read is the field that is spelled, and what is spelled is read again.
use Rattle.dvg_text.proofs.Common.{◌≡◌, ◌⊎◌, inl, inr, ℕ, ◌/◌, ◌%◌, ◌^◌, ◌<◌, ◌≤◌, true, false, List, ◌∷◌, length, Option, Some, None, IfSome, IfNone, refl, sym, subst, arith, codes, decimal, nat_le, nat_lt, pos, neg_ℤ, signed_decimal, digit_glyph, bytes_eq, digits_value, bytes_eq-Decides, nat_tests, cond_some, and_parts, decimal_is_IsNumeral, AllDigits, MOST_MAGNITUDE, ADDRESS_END, Key, IsNumber, IsKey, address_token, key_token, natural_in, hex_value, address_in, rules}

pub natural_some : (low high n : ℕ) (token : List ℕ) → n < 2 ^ 64 → low ≤ n → n ≤ high → token ≡ decimal n
    → natural_in low high token ≡ Some n
unfolding natural_in
natural_some low high n token small from to e =
    grind (
      arith,
      (digits_value 10 token),
      (digits_value 10),
      (decimal_is_IsNumeral n small),
      (bytes_eq (decimal n) token),
      (decimal n),
      (bytes_eq-Decides (decimal n) token),
      nat_tests,
    )

pub natural_none : (low high : ℕ) (token : List ℕ) → ((n : ℕ) → low ≤ n → n ≤ high → token ≡ decimal n → ⊥)
    → natural_in low high token ≡ None
unfolding natural_in
natural_none low high token never = grind (arith, digits_value, bytes_eq, decimal, nat_le, nat_tests, bytes_eq-Decides)

pub natural_takes : (low high : ℕ) (token : List ℕ) (n : ℕ) → natural_in low high token ≡ Some n → (token ≡ decimal n) × (low ≤ n)
    × (n ≤ high)
unfolding natural_in
natural_takes low high token n e =
    search (rules, (digits_value 10 token), cond_some, bytes_eq, decimal, nat_le, and_parts, nat_tests, bytes_eq-Decides)

-- what is read is none, or some of which this holds
abbrev pub Says : {X : Type 0} → Option X → (X → Type 0) → Type 0
Says {X} o P = (o ≡ None) ⊎ ((x : X) × (o ≡ Some x) × P x)

pub says : {X : Type 0} {P : X → Type 0} (o : Option X) → IfSome o P → Says o P
says None h = inl refl
says (Some x) h = inr (x, refl, h)

-- what is answered, if it is none
pub none_as : {X P : Type 0} {o : Option X} (r : Option X) → r ≡ o → (o ≡ None → P) → IfNone r P
none_as r e holds = grind (arith)

pub negated : (n : ℕ) → 1 ≤ n → n ≤ MOST_MAGNITUDE → (45 ∷ decimal n ≡ signed_decimal (neg_ℤ (pos n))) × IsNumber (neg_ℤ (pos n))
negated n from to = grind (arith)

-- a decimal begins with a digit
pub first_digit : (w : List ℕ) (n : ℕ) → n < 2 ^ 64 → w ≡ decimal n → (0 < length w) × AllDigits 10 w
first_digit w n small e = subst (λ (ds : List ℕ). (0 < length ds) × AllDigits 10 ds) (sym e) (decimal_is_IsNumeral n small).0

glyph_takes : (c : ℕ) → hex_value c < 16 → digit_glyph true (hex_value c) ≡ c
glyph_takes c h = grind (arith, nat_tests)

glyph_again : (v : ℕ) → v < 16 → hex_value (digit_glyph true v) ≡ v
glyph_again v h = grind (arith, nat_tests)

pub address_takes : (first last : ℕ) (token : List ℕ) → last < ADDRESS_END
    → Says (address_in first last token) (λ a. (token ≡ address_token a) × (first ≤ a) × (a ≤ last))
unfolding address_in
address_takes first last token small = says (address_in first last token) (grind (arith, nat_tests, glyph_takes, digit_glyph))

pub address_again : (first last a : ℕ) → last < ADDRESS_END → first ≤ a → a ≤ last → address_in first last (address_token a) ≡ Some a
unfolding address_in
address_again first last a small from to =
    rw (glyph_again (a / 256) (omega arith), glyph_again (a / 16 % 16) (omega arith), glyph_again (a % 16) (omega arith))
    (grind (arith, nat_lt, nat_tests, nat_le))

-- ---- tokens on their own

pub no_key : (high : ℕ) (token : List ℕ) → 15 ≤ high → high < 2 ^ 64 → bytes_eq token (codes "any") ≡ false
    → natural_in 0 high token ≡ None → (k : Key) → IsKey k → token ≡ key_token k → ⊥
no_key high token room small any none h6 h is = grind (arith, natural_in, natural_some, bytes_eq, codes, bytes_eq-Decides)
