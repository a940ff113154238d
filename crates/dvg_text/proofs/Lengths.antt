-- How long a line is.
use Rattle.dvg_text.proofs.Common.{◌≡◌, ℕ, suc, ◌+◌, ◌≤◌, List, [], ◌∷◌, ◌++◌, length, arith, w64, MOST_ENTRIES, SPACE, codes, decimal, ℤ, pos, negsuc, signed_decimal, join_with_byte, length-append, length-decimal-le, MOST_WORDS, to_z-of_z, ints, Key, End, LitBox, Entry, IsNumber, IsKey, IsEnd, IsBox, IsEntry, key_token, end_tokens, box_tokens, entry_tokens, entry_line, done_line}
use Rattle.std.proofs.Math.Nat.{le_trans}
use mir.Val.{SFits}

-- the bytes of tokens, each with one more
abbrev pub weight : List (List ℕ) → ℕ
weight [] = 0
weight (w ∷ ws) = length w + 1 + weight ws

join_le : (ws : List (List ℕ)) → length (join_with_byte SPACE ws) ≤ weight ws
join_le [] = omega arith
join_le (w ∷ []) = omega arith
join_le (w ∷ v ∷ vs) = omega (arith, join_le (v ∷ vs), length-append w (SPACE ∷ join_with_byte SPACE (v ∷ vs)))

weight-append : (ws vs : List (List ℕ)) → weight (ws ++ vs) ≡ weight ws + weight vs
weight-append [] vs = omega arith
weight-append (w ∷ ws) vs = omega (arith, weight-append ws vs)

pub number_le : (z : ℤ) → IsNumber z → length (signed_decimal z) ≤ 14
number_le (pos n) h = omega (arith, length-decimal-le 13 n (omega arith) (omega (arith, ints)) (omega (arith, ints)))
number_le (negsuc n) h = omega (arith, length-decimal-le 13 (suc n) (omega arith) (omega (arith, ints)) (omega (arith, ints)))

pub number_fits : (z : ℤ) → IsNumber z → SFits w64 z
number_fits z h = grind (arith, pos, negsuc)

pub words_le : (n : ℕ) → n ≤ MOST_WORDS → length (decimal n) ≤ 7
words_le n h = length-decimal-le 7 n (omega arith) (omega arith) (omega arith)

pub ruleset number_texts = (number_le, number_fits, to_z-of_z)

key_le : (k : Key) → IsKey k → length (key_token k) ≤ 3
key_le k h = grind (arith, length-decimal-le)

end_le : (e : End) → IsEnd e → weight (end_tokens e) ≤ 34
end_le e h = grind (arith, number_le)

box_le : (b : LitBox) → IsBox b → weight (box_tokens b) ≤ 60
box_le b h = grind (arith, number_le)

pub length_entry : (first last : ℕ) (e : Entry) → IsEntry first last e → length (entry_line e) ≤ 148
length_entry first last e h =
    let d = length-decimal-le 1 e.depth (omega arith) (omega (arith, h.depth)) (omega (arith, h.depth)) in
    let w = length-decimal-le 7 e.words (omega arith) (omega (arith, h.words_high)) (omega (arith, h.words_high)) in
    le_trans (join_le (entry_tokens e))
    (simp weight-append (omega (arith, key_le e.key h.key, key_le e.scale h.scale, d, w, end_le e.stop h.stop, box_le e.lit h.lit)))

pub length_done : (n : ℕ) → n ≤ MOST_ENTRIES → length (done_line n) ≤ 10
length_done n h = omega (arith, length-decimal-le 4 n (omega arith) (omega arith) (omega arith), join_le (codes "done" ∷ decimal n ∷ []))
