-- A field that is read from the front of bytes is spelled there, and what is spelled there is read again.
use Rattle.dvg_text.proofs.Common.{natural_in, bytes_eq-Decides, inl, inr, ◌≡◌, ℕ, ◌+◌, ◌-◌, ◌^◌, ◌<◌, ◌≤◌, [], ◌∷◌, ◌++◌, length, map, take, drop, get_or, Some, None, refl, sym, ap, ◌∙◌, arith, decimal, nat_le, nat_lt, digit_value, AllDigits, digits_value, eqb-true, nat_tests, decimal_digit, decimal-digits_of, digits_of_step, take-append-drop, length-append, take-append_seam, digit_value_digit, MOST_MAGNITUDE, ADDRESS_END, Key, IsKey, address_token, key_token, NoDigitFirst, past, digits_off, natural_at, digit_at, address_at, key_at}
use Rattle.std.proofs.lemmas.Bool.Decides.{Decides-eqb}
use Rattle.dvg_text.proofs.FieldValues.{Says, says, natural_some, first_digit, address_takes, address_again}
use Rattle.dvg_text.proofs.Leading.{Text, same_number, digits_lead}
use Rattle.dvg_cert.specs.declared.entry.Key.TheVariants.{At, Any}

-- ---- texts

pub past_reads : (text bytes : Text) → Says (past text bytes) (λ rest. bytes ≡ text ++ rest)
unfolding past
past_reads [] bytes = inr (bytes, refl, refl)
past_reads (t ∷ text) [] = inl refl
past_reads (t ∷ text) (b ∷ bytes) = says (past (t ∷ text) (b ∷ bytes)) (grind (arith, (past_reads text bytes), eqb-true))

pub past_again : (text rest : Text) → past text (text ++ rest) ≡ Some rest
unfolding past
past_again [] rest = refl
past_again (t ∷ text) rest = rw ((Decides-eqb t t).1 refl, past_again text rest) refl

-- the bytes cut where the text would end
pub past_found : (n : ℕ) (text bytes prefix rest : Text) → prefix ≡ take n bytes → rest ≡ drop n bytes → prefix ≡ text
    → past text bytes ≡ Some rest
past_found n text bytes prefix rest is after same =
    ap (past text) (sym (take-append-drop n bytes) ∙ rw (← is, ← after, same) refl) ∙ past_again text rest

pub past_not_found : (n : ℕ) (text bytes prefix : Text) → prefix ≡ take n bytes → length text ≡ n → (prefix ≡ text → ⊥)
    → past text bytes ≡ None
past_not_found n text bytes prefix is len other = grind (arith, past_reads, take-append_seam)

pub past_short : (text bytes : Text) → length bytes < length text → past text bytes ≡ None
past_short text bytes lt = grind (arith, past_reads, length-append)

-- ---- numbers

pub off_takes : (bytes : Text) → (bytes ≡ (digits_off bytes).0 ++ (digits_off bytes).1) × NoDigitFirst ((digits_off bytes).1)
unfolding digits_off
off_takes [] = (refl, tt)
off_takes (c ∷ cs) = grind (arith, (off_takes cs), (digits_off cs), nat_lt, digit_value, nat_tests)

pub off_again : (ds rest : Text) → AllDigits 10 ds → NoDigitFirst rest → digits_off (ds ++ rest) ≡ (ds, rest)
unfolding digits_off
off_again [] [] all stop = refl
off_again [] (c ∷ cs) all stop = grind (arith, nat_lt, digit_value, digits_off, nat_tests)
off_again (d ∷ ds) rest all stop = grind (arith, nat_lt, digit_value, nat_tests, (off_again ds rest all.1 stop))

pub natural_again : (low high n : ℕ) (rest : Text) → n < 2 ^ 64 → low ≤ n → n ≤ high → NoDigitFirst rest
    → natural_at low high (decimal n ++ rest) ≡ Some (n, rest)
unfolding natural_at
natural_again low high n rest small from to stop =
    grind (
      arith,
      (off_again (decimal n) rest (first_digit (decimal n) n small refl).1 stop),
      (decimal n),
      (first_digit (decimal n) n small refl),
      (natural_some low high n (decimal n) small from to refl),
    )

pub natural_reads : (low high : ℕ) (bytes : Text)
    → Says (natural_at low high bytes) (λ p. (bytes ≡ decimal p.0 ++ p.1) × (low ≤ p.0) × (p.0 ≤ high) × NoDigitFirst p.1)
unfolding natural_at natural_in
natural_reads low high bytes = says (natural_at low high bytes) (grind (arith, (off_takes bytes), bytes_eq-Decides, nat_tests))

natural_never : (low high : ℕ) (bytes : Text)
    → ((n : ℕ) (rest : Text) → (bytes ≡ decimal n ++ rest) → low ≤ n → n ≤ high → NoDigitFirst rest → ⊥) → natural_at low high bytes ≡ None
natural_never low high bytes never = grind (arith, natural_reads)

pub natural_is : (low high n : ℕ) (bytes rest : Text) → n < 2 ^ 64 → low ≤ n → n ≤ high → bytes ≡ decimal n ++ rest → NoDigitFirst rest
    → natural_at low high bytes ≡ Some (n, rest)
natural_is low high n bytes rest small from to e stop = ap (natural_at low high) e ∙ natural_again low high n rest small from to stop

pub natural_outside : (low high n : ℕ) (bytes rest : Text) → high ≤ MOST_MAGNITUDE → n < 2 ^ 64 → NoDigitFirst rest
    → bytes ≡ decimal n ++ rest → (low ≤ n → n ≤ high → ⊥) → natural_at low high bytes ≡ None
natural_outside low high n bytes rest top small stop e outside = natural_never low high bytes (λ m left is from to free.
    let same = same_number n m bytes rest left small (omega arith) stop free e is in
    outside (omega (arith, same.0)) (omega (arith, same.0)))

pub natural_none_at : (low high : ℕ) (bytes : Text) → high ≤ MOST_MAGNITUDE
    → ((n : ℕ) (rest : Text) → n ≤ MOST_MAGNITUDE → NoDigitFirst rest → bytes ≡ decimal n ++ rest → ⊥) → natural_at low high bytes ≡ None
natural_none_at low high bytes top never = grind (arith, natural_reads)

pub magnitude_read : (count number : ℕ) (bytes : Text) → AllDigits 10 (take count bytes) → number ≡ digits_value 10 (take count bytes)
    → 0 < count → count ≤ 13 → count ≤ length bytes → NoDigitFirst (drop count bytes) → (get_or bytes 0 0 ≡ 48 → ⊥)
    → number ≤ MOST_MAGNITUDE
    → natural_at 1 MOST_MAGNITUDE bytes ≡ Some (number, drop count bytes)
magnitude_read count number bytes all value some few within stop other most =
    let read = digits_lead count number bytes all value few within stop some (λ z. absurd (other z)) in
    natural_is 1 MOST_MAGNITUDE number bytes (drop count bytes) (omega arith) (grind (arith, decimal_digit)) most read.0 read.2

-- ---- single digits

pub digit_reads : (most : ℕ) (bytes : Text) → Says (digit_at most bytes) (λ p. (bytes ≡ (48 + p.0) ∷ p.1) × (p.0 ≤ most))
unfolding digit_at
digit_reads most bytes = says (digit_at most bytes) (grind (arith, nat_tests))

pub digit_again : (most d : ℕ) (rest : Text) → d ≤ most → digit_at most ((48 + d) ∷ rest) ≡ Some (d, rest)
unfolding digit_at
digit_again most d rest le = grind (arith, nat_le, nat_tests)

-- ---- addresses

pub address_reads : (first last : ℕ) (bytes : Text) → last < ADDRESS_END
    → Says (address_at first last bytes) (λ p. (bytes ≡ address_token p.0 ++ p.1) × (first ≤ p.0) × (p.0 ≤ last))
unfolding address_at
address_reads first last bytes small = says (address_at first last bytes) (grind (arith, address_takes))

pub address_spelled : (first last a : ℕ) (rest : Text) → last < ADDRESS_END → first ≤ a → a ≤ last
    → address_at first last (address_token a ++ rest) ≡ Some (a, rest)
unfolding address_at
address_spelled first last a rest small from to = rw (address_again first last a small from to) refl

-- ---- keys

two_digits : (u : ℕ) → u ≤ 5 → decimal (10 + u) ≡ 49 ∷ (48 + u) ∷ []
two_digits u le = grind (arith, digits_of_step, decimal-digits_of, map)

pub key_reads : (bytes : Text) → Says (key_at bytes) (λ p. (bytes ≡ key_token p.0 ++ p.1) × IsKey p.0)
unfolding key_at
key_reads bytes = says (key_at bytes) (grind (arith, past_reads, digit_reads, nat_tests, decimal_digit, two_digits))

pub key_spelled : (k : Key) (rest : Text) → IsKey k → NoDigitFirst rest → key_at (key_token k ++ rest) ≡ Some (k, rest)
unfolding key_at digit_at past
key_spelled (At n) rest h stop = grind (arith, nat_tests, decimal_digit, (two_digits (n - 10)), digit_value, digit_value_digit)
key_spelled Any rest h stop = refl
