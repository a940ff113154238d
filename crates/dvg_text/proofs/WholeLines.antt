-- A line that is read says what it is read as, and each line that says something is read as that.
use Rattle.dvg_text.proofs.Common.{◌≢◌, bytes_eq-Decides, nat_tests, ◌≡◌, ℕ, ◌<◌, ◌≤◌, List, [], ◌∷◌, ◌++◌, Option, Some, None, refl, sym, ap, ◌∙◌, append_assoc, arith, codes, decimal, ℤ, pos, negsuc, int_le, signed_decimal, join_with_byte, option_map, option_or, decimal_digit, ints, append-nil, digit_from_value, MOST_ENTRIES, MOST_MAGNITUDE, ADDRESS_END, SPACE, End, LitBox, Entry, IsNumber, IsEnd, IsBox, IsEntry, address_token, key_token, end_tokens, box_tokens, entry_line, done_line, Line, EntryLine, DoneLine, IsLine, NoDigitFirst, past, number_at, two_at, end_at, span_at, box_at, entry_at, done_at, nothing_left}
use Rattle.dvg_text.proofs.FieldValues.{Says, says, first_digit, negated}
use Rattle.dvg_text.proofs.Digits.{not_zero}
use Rattle.dvg_text.proofs.Leading.{Text}
use Rattle.dvg_text.proofs.Steps.{past_reads, natural_reads, natural_again, digit_reads, digit_again, address_reads, address_spelled, key_reads, key_spelled}

-- ---- what stands around the fields

join_append : (w v : Text) (ws vs : List Text)
    → join_with_byte SPACE (w ∷ (ws ++ v ∷ vs)) ≡ join_with_byte SPACE (w ∷ ws) ++ SPACE ∷ join_with_byte SPACE (v ∷ vs)
join_append w v [] vs = refl
join_append w v (u ∷ ws) vs = ap (λ (xs : Text). w ++ SPACE ∷ xs) (join_append u v ws vs) ∙ simp append_assoc

abbrev pub end_text : End → Text
end_text e = join_with_byte SPACE (end_tokens e)

abbrev pub box_text : LitBox → Text
box_text b = join_with_byte SPACE (box_tokens b)

-- an entry's fields, with the text between them
abbrev pub fields_text : Entry → Text → Text
fields_text e rest =
    codes "shape " ++ (address_token e.addr
    ++ (codes " " ++ (key_token e.key ++ (codes " end " ++ (end_text e.stop ++ (codes " box " ++ (box_text e.lit
    ++ (codes " depth " ++ (decimal e.depth
    ++ (codes " words " ++ (decimal e.words ++ (codes " scale " ++ (key_token e.scale ++ rest)))))))))))))

pub entry_joined : (e : Entry) → entry_line e ≡ fields_text e []
entry_joined e =
    grind (
      arith,
      decimal,
      codes,
      key_token,
      address_token,
      join_with_byte,
      append_assoc,
      end_tokens,
      box_tokens,
      join_append,
      signed_decimal,
      append-nil,
    )

-- an entry's fields, and what follows its line
pub fields_then : (e : Entry) (rest : Text) → fields_text e rest ≡ entry_line e ++ rest
fields_then e rest = sym (ap (λ (line : Text). line ++ rest) (entry_joined e) ∙ simp append_assoc)

-- ---- numbers

pub number_reads : (bytes : Text) → Says (number_at bytes) (λ p. (bytes ≡ signed_decimal p.0 ++ p.1) × IsNumber p.0)
unfolding number_at
number_reads bytes = says (number_at bytes) (grind (arith, past_reads, natural_reads, negated, decimal_digit))

-- a decimal begins with a digit, which is 0 for 0 alone
led : (n : ℕ) → n ≤ MOST_MAGNITUDE → (c : ℕ) × (ds : Text) × (decimal n ≡ c ∷ ds) × (48 ≤ c) × (c ≤ 57) × (1 ≤ n → c ≢ 48)
led n le = by (decimal n) refl
  where
    by : (w : Text) → w ≡ decimal n → (c : ℕ) × (ds : Text) × (w ≡ c ∷ ds) × (48 ≤ c) × (c ≤ 57) × (1 ≤ n → c ≢ 48)
    by [] e = absurd (omega (arith, (first_digit [] n (omega arith) e).0))
    by (c ∷ ds) e =
        let r = digit_from_value c (first_digit (c ∷ ds) n (omega arith) e).1.0 in
        (c, ds, refl, omega arith, omega arith, λ some z. not_zero n (c ∷ ds) some le e z)

number_spelled : (z : ℤ) (rest : Text) → IsNumber z → NoDigitFirst rest → number_at (signed_decimal z ++ rest) ≡ Some (z, rest)
unfolding number_at past
number_spelled (pos n) rest h stop = grind (arith, nat_tests, natural_again, (led n (omega (arith, ints))), decimal_digit)
number_spelled (negsuc n) rest h stop = grind (arith, natural_again)

space_stops : (rest : Text) → NoDigitFirst (SPACE ∷ rest)
space_stops rest = λ h. let r = digit_from_value 32 h in omega arith

-- ---- pairs, ends and boxes

pub end_reads : (bytes : Text) → Says (end_at bytes) (λ p. (bytes ≡ end_text p.0 ++ p.1) × IsEnd p.0)
unfolding end_at two_at
end_reads bytes = says (end_at bytes) (grind (arith, past_reads, number_reads, append_assoc))

end_spelled : (e : End) (rest : Text) → IsEnd e → NoDigitFirst rest → end_at (end_text e ++ rest) ≡ Some (e, rest)
unfolding end_at two_at past
end_spelled e rest h stop = grind (arith, number_spelled, append_assoc, space_stops)

pub box_reads : (bytes : Text) → Says (box_at bytes) (λ p. (bytes ≡ box_text p.0 ++ p.1) × IsBox p.0)
unfolding box_at span_at two_at
box_reads bytes = says (box_at bytes) (grind (arith, past_reads, number_reads, append_assoc, int_le))

-- no number is spelled none
not_none : (z : ℤ) (rest : Text) → IsNumber z → past (codes "none") (signed_decimal z ++ rest) ≡ None
unfolding past
not_none (pos n) rest h = grind (arith, nat_tests, (led n (omega (arith, ints))))
not_none (negsuc n) rest h = refl

box_spelled : (b : LitBox) (rest : Text) → IsBox b → NoDigitFirst rest → box_at (box_text b ++ rest) ≡ Some (b, rest)
unfolding box_at span_at two_at past
box_spelled b rest h stop = grind (arith, number_spelled, append_assoc, not_none, space_stops, int_le)

-- ---- entries and lines

pub entry_reads : (first last : ℕ) (bytes : Text) → last < ADDRESS_END
    → Says (entry_at first last bytes) (λ p. (bytes ≡ fields_text p.0 p.1) × IsEntry first last p.0)
unfolding entry_at
entry_reads first last bytes small =
    says (entry_at first last bytes)
    (grind (arith, past_reads, address_reads, key_reads, end_reads, box_reads, digit_reads, natural_reads, decimal_digit))

entry_spelled : (first last : ℕ) (e : Entry) → last < ADDRESS_END → IsEntry first last e
    → entry_at first last (fields_text e []) ≡ Some (e, [])
unfolding entry_at past
entry_spelled first last e small h =
    grind (arith, address_spelled, key_spelled, end_spelled, box_spelled, digit_again, natural_again, decimal_digit, space_stops)

pub entry_takes : (first last : ℕ) (bytes : Text) → last < ADDRESS_END
    → Says (nothing_left (entry_at first last bytes)) (λ e. IsLine first last (EntryLine e) bytes)
entry_takes first last bytes small =
    says (nothing_left (entry_at first last bytes)) (grind (arith, (entry_reads first last bytes small), bytes_eq-Decides, entry_joined))

pub entry_again : (first last : ℕ) (bytes : Text) (e : Entry) → last < ADDRESS_END → IsLine first last (EntryLine e) bytes
    → nothing_left (entry_at first last bytes) ≡ Some e
entry_again first last bytes e small h = grind (arith, entry_at, entry_joined, entry_spelled)

pub count_takes : (bytes : Text) → Says (nothing_left (done_at bytes)) (λ n. (n ≤ MOST_ENTRIES) × (bytes ≡ done_line n))
unfolding done_at
count_takes bytes = says (nothing_left (done_at bytes)) (grind (arith, past_reads, natural_reads, bytes_eq-Decides, append-nil))

pub count_again : (bytes : Text) (n : ℕ) → n ≤ MOST_ENTRIES → bytes ≡ done_line n → nothing_left (done_at bytes) ≡ Some n
unfolding done_at past
count_again bytes n few is = grind (arith, (natural_again 0 MOST_ENTRIES n []), append-nil)

-- ---- what a line says, and that it says only one thing

-- what a line says, an entry or a count
unfoldable pub said : ℕ → ℕ → Text → Option Line
said first last bytes =
    option_or (option_map EntryLine (nothing_left (entry_at first last bytes))) (option_map DoneLine (nothing_left (done_at bytes)))

pub line_takes : (first last : ℕ) (bytes : Text) → last < ADDRESS_END → Says (said first last bytes) (λ l. IsLine first last l bytes)
unfolding said
line_takes first last bytes small = says (said first last bytes) (grind (arith, nothing_left, done_at, entry_at, count_takes, entry_takes))

pub line_again : (first last : ℕ) (bytes : Text) (l : Line) → last < ADDRESS_END → IsLine first last l bytes
    → said first last bytes ≡ Some l
unfolding said entry_at past
line_again first last bytes (EntryLine e) small h = rw (entry_again first last bytes e small h) refl
line_again first last bytes (DoneLine n) small h =
    ap (said first last) h.1 ∙ ap (option_map DoneLine) (count_again (done_line n) n h.0 refl)
