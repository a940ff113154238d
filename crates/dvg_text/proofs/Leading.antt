-- The digits that bytes begin with.
use Rattle.dvg_text.proofs.Common.{◌≡◌, ℕ, ◌+◌, ◌^◌, ◌<◌, ◌≤◌, List, [], ◌∷◌, ◌++◌, length, take, drop, Some, None, refl, sym, ap, subst, ◌∙◌, arith, decimal, get_or, drop_of_length-le, AllDigits, digits_value, append-nil, nil_from_length, take-append-drop, length-take-le, MOST_MAGNITUDE, natural_in, NoDigitFirst}
use Rattle.dvg_text.proofs.FieldValues.{natural_some, natural_none, first_digit}
use Rattle.dvg_text.proofs.Digits.{same_decimal, spells, below, no_zero, not_long}

abbrev pub Text : Type 0
Text = List ℕ

pub same_digits : (ds es r s : Text) → AllDigits 10 ds → AllDigits 10 es → NoDigitFirst r → NoDigitFirst s → ds ++ r ≡ es ++ s
    → (ds ≡ es) × (r ≡ s)
same_digits [] [] r s hd he hr hs e = (refl, e)
same_digits [] (y ∷ es) r s hd he hr hs e = absurd ((subst NoDigitFirst e hr) he.0)
same_digits (x ∷ ds) [] r s hd he hr hs e = absurd ((subst NoDigitFirst (sym e) hs) hd.0)
same_digits (x ∷ ds) (y ∷ es) r s hd he hr hs e =
    let head : x ≡ y = cc in
    let tail : ds ++ r ≡ es ++ s = cc in
    let t = same_digits ds es r s hd.1 he.1 hr hs tail in
    (rw (head, t.0) refl, t.1)

pub same_number : (m n : ℕ) (bytes r s : Text) → m < 2 ^ 64 → n < 2 ^ 64 → NoDigitFirst r → NoDigitFirst s → bytes ≡ decimal m ++ r
    → bytes ≡ decimal n ++ s → (m ≡ n) × (r ≡ s)
same_number m n bytes r s hm hn hr hs em en =
    grind (
      arith,
      (same_digits (decimal m) (decimal n) r s (first_digit (decimal m) m hm refl).1 (first_digit (decimal n) n hn refl).1 hr
          hs (sym em ∙ en)),
      (decimal m),
      (decimal n),
      (first_digit (decimal m) m hm refl),
      (first_digit (decimal n) n hn refl),
      same_decimal,
    )

led : (count n : ℕ) (bytes rest : Text) → AllDigits 10 (take count bytes) → NoDigitFirst (drop count bytes) → n < 2 ^ 64
    → NoDigitFirst rest → bytes ≡ decimal n ++ rest → take count bytes ≡ decimal n
led count n bytes rest all stop small free e =
    grind (
      arith,
      (same_digits (take count bytes) (decimal n) (drop count bytes) rest all (first_digit (decimal n) n small refl).1 stop
          free (take-append-drop count bytes ∙ e)),
      (decimal n),
      (first_digit (decimal n) n small refl),
      (take-append-drop count bytes),
    )

pub no_digits : (count : ℕ) (bytes : Text) → count ≡ 0 → count ≤ length bytes → AllDigits 10 (take count bytes)
    → NoDigitFirst (drop count bytes) → (n : ℕ) → (rest : Text) → n ≤ MOST_MAGNITUDE → NoDigitFirst rest → bytes ≡ decimal n ++ rest → ⊥
no_digits count bytes is_zero within all stop n rest le free e =
    grind (
      arith,
      (led count n bytes rest all stop (omega arith) free e),
      (length-take-le count bytes within),
      (first_digit (decimal n) n (omega arith) refl),
      (decimal n),
    )

pub zero_led : (count : ℕ) (bytes : Text) → 1 < count → count ≤ length bytes → get_or bytes 0 0 ≡ 48 → AllDigits 10 (take count bytes)
    → NoDigitFirst (drop count bytes) → (n : ℕ) → (rest : Text) → n ≤ MOST_MAGNITUDE → NoDigitFirst rest → bytes ≡ decimal n ++ rest → ⊥
zero_led count bytes more within z all stop n rest le free e =
    grind (arith, (led count n bytes rest all stop (omega arith) free e), no_zero, (length-take-le count bytes within))

pub digits_lead : (count number : ℕ) (bytes : Text) → AllDigits 10 (take count bytes) → number ≡ digits_value 10 (take count bytes)
    → count ≤ 13 → count ≤ length bytes → NoDigitFirst (drop count bytes) → 0 < count → (get_or bytes 0 0 ≡ 48 → count ≤ 1)
    → (bytes ≡ decimal number ++ drop count bytes) × (number < 10 ^ 13) × NoDigitFirst (drop count bytes)
digits_lead count number bytes all value few within stop some short =
    grind (arith, length-take-le, decimal, digits_value, spells, below, take-append-drop)

pub ends : (bytes : Text) (i : ℕ) → length bytes ≤ i → NoDigitFirst (drop i bytes)
ends bytes i le = rw (drop_of_length-le bytes le) tt

no_longer : (ds r es s : Text) → AllDigits 10 ds → NoDigitFirst s → ds ++ r ≡ es ++ s → length ds ≤ length es
no_longer [] r es s all stop e = omega arith
no_longer (x ∷ ds) r [] s all stop e = absurd ((subst NoDigitFirst (sym e) stop) all.0)
no_longer (x ∷ ds) r (y ∷ es) s all stop e = let tail : ds ++ r ≡ es ++ s = cc in let t = no_longer ds r es s all.1 stop tail in omega arith

pub too_long : (bytes : Text) (i : ℕ) → i < length bytes → i ≡ 13 → AllDigits 10 (take (i + 1) bytes) → (n : ℕ) → (rest : Text)
    → n ≤ MOST_MAGNITUDE → NoDigitFirst rest → bytes ≡ decimal n ++ rest → ⊥
too_long bytes i lt at all n rest le free e =
    grind (
      arith,
      (no_longer (take (i + 1) bytes) (drop (i + 1) bytes) (decimal n) rest all free (take-append-drop (i + 1) bytes ∙ e)),
      (decimal n),
      (take-append-drop (i + 1) bytes),
      (length-take-le (i + 1) bytes (omega arith)),
      (not_long (decimal n) n le refl),
    )

-- ---- a whole token

pub no_value : (low high : ℕ) (token : Text) → high ≤ MOST_MAGNITUDE
    → ((n : ℕ) (rest : Text) → n ≤ MOST_MAGNITUDE → NoDigitFirst rest → token ≡ decimal n ++ rest → ⊥) → natural_in low high token ≡ None
no_value low high token top never =
    natural_none low high token (λ m from to e. never m [] (omega arith) tt (e ∙ sym (append-nil (decimal m))))

pub value_outside : (low high n : ℕ) (token rest : Text) → high ≤ MOST_MAGNITUDE → n < 2 ^ 64 → NoDigitFirst rest
    → token ≡ decimal n ++ rest → (low ≤ n → n ≤ high → length rest ≡ 0 → ⊥) → natural_in low high token ≡ None
value_outside low high n token rest top small free e outside = natural_none low high token (λ m from to is.
    let same = same_number n m token rest [] small (omega arith) free tt e (is ∙ sym (append-nil (decimal m))) in
    outside (omega (arith, same.0)) (omega (arith, same.0)) (ap length same.1))

pub value_taken : (low high n : ℕ) (token rest : Text) → low ≤ n → n ≤ high → n < 2 ^ 64 → length rest ≡ 0 → token ≡ decimal n ++ rest
    → natural_in low high token ≡ Some n
value_taken low high n token rest from to small none e = grind (arith, natural_some, decimal, nil_from_length, append-nil)
