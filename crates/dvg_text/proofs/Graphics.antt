-- Lines: a spelled line has no line end inside.
use Rattle.dvg_text.proofs.Common.{AllByRecursion, ℕ, ◌/◌, ◌%◌, ◌^◌, ◌<◌, ◌≤◌, List, [], ◌∷◌, ◌++◌, refl, arith, lit≤, codes, decimal, pos, negsuc, true, digit_glyph, AllDigits, join_with_byte, digit_from_value, nat_tests, LINE_FEED, SPACE, Key, End, LitBox, Entry, IsKey, IsEnd, IsBox, IsEntry, address_token, key_token, end_tokens, box_tokens, entry_tokens, Without}
use Rattle.dvg_text.proofs.FieldValues.{first_digit}
use Rattle.dvg_text.proofs.Leading.{Text}

-- bytes past the space
abbrev pub Graphic : Text → Type 0
Graphic [] = Unit {0}
Graphic (b ∷ bs) = (SPACE < b) × Graphic bs

abbrev pub Graphics : List Text → Type 0
Graphics ws = AllByRecursion Graphic ws

pub graphic_without : (c : ℕ) (w : Text) → c ≤ SPACE → Graphic w → Without c w
graphic_without c [] le h = tt
graphic_without c (b ∷ bs) le h = (grind (arith, nat_tests), graphic_without c bs le h.1)

graphic_digits : (ds : Text) → AllDigits 10 ds → Graphic ds
graphic_digits [] h = tt
graphic_digits (d ∷ ds) h = let r = digit_from_value d h.0 in (omega arith, graphic_digits ds h.1)

pub graphic_decimal : (n : ℕ) → n < 2 ^ 64 → Graphic (decimal n)
graphic_decimal n small = graphic_digits (decimal n) (first_digit (decimal n) n small refl).1

graphic_glyph : (v : ℕ) → SPACE < digit_glyph true v
graphic_glyph v = grind (arith, nat_tests)

pub graphic_hex : (a : ℕ) → Graphic (address_token a)
graphic_hex a = (graphic_glyph (a / 256), (graphic_glyph (a / 16 % 16), (graphic_glyph (a % 16), tt)))

graphic_key : (k : Key) → IsKey k → Graphic (key_token k)
graphic_key k h = grind (arith, graphic_decimal)

graphics_end : (e : End) → IsEnd e → Graphics (end_tokens e)
graphics_end e h = grind (arith, pos, graphic_decimal, negsuc)

graphics_box : (b : LitBox) → IsBox b → Graphics (box_tokens b)
graphics_box b h = grind (arith, pos, graphic_decimal, negsuc)

pub graphics_entry : (first last : ℕ) (e : Entry) → IsEntry first last e → Graphics (entry_tokens e)
graphics_entry first last e h =
    grind (
      arith,
      codes,
      address_token,
      key_token,
      end_tokens,
      graphic_hex,
      graphic_key,
      graphics_end,
      box_tokens,
      graphics_box,
      decimal,
      graphic_decimal,
    )

pub Without-append : (c : ℕ) (xs ys : Text) → Without c xs → Without c ys → Without c (xs ++ ys)
Without-append c [] ys h k = k
Without-append c (x ∷ xs) ys h k = (h.0, Without-append c xs ys h.1 k)

-- a line of graphic tokens has no line end inside
pub line_free : (ws : List Text) → Graphics ws → Without LINE_FEED (join_with_byte SPACE ws)
line_free [] h = tt
line_free (w ∷ []) h = graphic_without LINE_FEED w (lit≤ tt) h.0
line_free (w ∷ v ∷ vs) h =
    Without-append LINE_FEED w (SPACE ∷ join_with_byte SPACE (v ∷ vs)) (graphic_without LINE_FEED w (lit≤ tt) h.0)
    (refl, line_free (v ∷ vs) h.1)
