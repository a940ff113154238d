-- Tokens of digits, byte by byte.
use Rattle.dvg_text.proofs.Common.{decimal_digit, ◌≡◌, ℕ, zero, suc, ◌+◌, ◌-◌, ◌*◌, ◌^◌, ◌<◌, ◌≤◌, List, [], ◌∷◌, length, get_or, take, refl, sym, ap, ◌∙◌, arith, add-one, decimal, nat_lt, nat_tests, digit_value, AllDigits, digits_value, digit_value_digit, IsNumeralModel, digits_value_short, digits_value-lt, digits_value_more, decimal_is_IsNumeral, decimal-digits_value, length-decimal-le, MOST_MAGNITUDE, rules, common_steps}
use Rattle.dvg_text.proofs.FieldValues.{first_digit}

pub own : IsNumeralModel (λ ds. AllDigits 10 ds) (digits_value 10)
own = record { to = λ ds h. h; from = λ ds h. h; same = λ ds h. refl }

pub below : (ds : List ℕ) → AllDigits 10 ds → length ds ≤ 13 → digits_value 10 ds < 10 ^ 13
below ds h le = digits_value_short own ds 13 h le

all_more : (ds : List ℕ) (i : ℕ) → i < length ds → AllDigits 10 (take i ds) → digit_value (get_or ds i 0) < 10
    → AllDigits 10 (take (suc i) ds)
all_more [] i lt h d = absurd (omega arith)
all_more (x ∷ ds) zero lt h d = (d, tt)
all_more (x ∷ ds) (suc i) lt h d = (h.0, all_more ds i (omega arith) h.1 d)

pub one_digit : (ds : List ℕ) (i c n : ℕ) → i < length ds → c ≡ get_or ds i 0 → 48 ≤ c → c ≤ 57 → AllDigits 10 (take i ds)
    → n ≡ digits_value 10 (take i ds) → AllDigits 10 (take (i + 1) ds) × (n * 10 + (c - 48) ≡ digits_value 10 (take (i + 1) ds))
one_digit ds i c n lt e from to h v = grind (arith, digit_value, digit_value_digit, digits_value_more, add-one, all_more)

pub not_long : (ds : List ℕ) (n : ℕ) → n ≤ MOST_MAGNITUDE → ds ≡ decimal n → (length ds ≤ 13) × (0 < length ds)
not_long ds n le d =
    let s = first_digit ds n (omega arith) d in
    (omega (arith, ap length d, length-decimal-le 13 n (omega arith) (omega arith) (omega arith)), s.0)

pub no_zero : (ds : List ℕ) (n : ℕ) → n ≤ MOST_MAGNITUDE → ds ≡ decimal n → get_or ds 0 0 ≡ 48 → length ds ≡ 1
no_zero ds n le d z =
    grind (
      arith,
      nat_lt,
      rules,
      common_steps,
      first_digit,
      digits_value,
      decimal_is_IsNumeral,
      digits_value-lt,
      length-decimal-le,
      nat_tests,
      not_long,
    )

pub spells : (ds : List ℕ) → AllDigits 10 ds → 0 < length ds → (get_or ds 0 0 ≡ 48 → length ds ≡ 1) → length ds ≤ 13
    → ds ≡ decimal (digits_value 10 ds)
spells ds h some z le = sym (decimal-digits_value own ds h some z (omega (arith, below ds h le)))

pub same_decimal : (m n : ℕ) → m < 2 ^ 64 → n < 2 ^ 64 → decimal m ≡ decimal n → m ≡ n
same_decimal m n h k e = sym (decimal_is_IsNumeral m h).1 ∙ ap (digits_value 10) e ∙ (decimal_is_IsNumeral n k).1

-- a number above 0 does not begin with 0
pub not_zero : (n : ℕ) (ds : List ℕ) → 1 ≤ n → n ≤ MOST_MAGNITUDE → ds ≡ decimal n → get_or ds 0 0 ≡ 48 → ⊥
not_zero n [] some le e z = omega arith
not_zero n (c ∷ []) some le e z =
    let same = same_decimal n 0 (omega arith) (omega arith) (sym e ∙ ap (λ (x : ℕ). x ∷ []) z ∙ sym (decimal_digit 0 (omega arith))) in
    omega (arith, same)
not_zero n (c ∷ d ∷ ds) some le e z = let one = no_zero (c ∷ d ∷ ds) n le e z in omega arith
