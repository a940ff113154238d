-- How the text of a window is cut at its commas.
use Rattle.dvg_spelling.proofs.Common.{◌≡◌, ◌≢◌, ℕ, ◌<◌, ◌≤◌, List, [], ◌∷◌, ◌++◌, length, get_or, Option, Bor, refl, sym, arith, ◌∙◌, ℤ, pos, negsuc, rules, decimal, ◌≤ℤ◌, IfNone, signed_decimal, ints, join_with_byte, Window, IsWindow}
use Rattle.std.specs.Prelude.{nat_abs, MatchOption}
use Rattle.std.proofs.lemmas.Str.Parse.{not_in_digits}
use Rattle.std.proofs.lemmas.Str.Pattern.{split_after, IsSplitOnceResult}
use Rattle.dvg_text.proofs.Digits.{own, same_decimal}
use Rattle.dvg_text.proofs.FieldValues.{first_digit}
use Rattle.dvg_text.proofs.Leading.{same_number}
use Rattle.dvg_spelling.specs.Arguments.{IsWindowText}

-- no digit is a comma
no_comma : (n : ℕ) → n ≤ 1023 → (i : ℕ) → i < length (decimal n) → get_or (decimal n) i 0 ≢ 44
no_comma n le = not_in_digits own (decimal n) 44 (first_digit (decimal n) n (omega (arith, le)) refl).1 (λ r. omega (arith, r.0))

-- what a text that begins with a place and a comma is cut into
pub parts : (text : List ℕ) (r : Option (Bor (List ℕ) × Bor (List ℕ))) → IsSplitOnceResult 44 text r → (n : ℕ) (rest : List ℕ) → n ≤ 1023
    → text ≡ decimal n ++ 44 ∷ rest → MatchOption r ⊥ (λ x. (x.0.now ≡ decimal n) × (x.1.now ≡ rest))
parts text r cut n rest le is = split_after 44 text (decimal n) rest r cut (omega arith) is (no_comma n le)

-- a text begins with one place and a comma at most
pub same_place : (m n : ℕ) (text r s : List ℕ) → m ≤ 1023 → n ≤ 1023 → text ≡ decimal m ++ 44 ∷ r → text ≡ decimal n ++ 44 ∷ s → (m ≡ n)
    × (r ≡ s)
same_place m n text r s le-m le-n is-m is-n =
    let t = same_number m n text (44 ∷ r) (44 ∷ s) (omega (arith, le-m)) (omega (arith, le-n)) (λ d. omega (arith, d))
    (λ d. omega (arith, d)) is-m is-n in
    let rest : 44 ∷ r ≡ 44 ∷ s = t.1 in
    (t.0, cc)

-- ---- the places of a window of the screen, as natural numbers

natural : (x : ℤ) → pos 0 ≤ℤ x → signed_decimal x ≡ decimal (nat_abs x)
natural x least = grind (arith, pos, negsuc)

four : (w : Window) → IsWindow w
    → join_with_byte 44 (signed_decimal w.x_min ∷ signed_decimal w.x_max ∷ signed_decimal w.y_min ∷ signed_decimal w.y_max ∷ [])
    ≡ join_with_byte 44 (decimal (nat_abs w.x_min) ∷ decimal (nat_abs w.x_max) ∷ decimal (nat_abs w.y_min) ∷ decimal (nat_abs w.y_max) ∷ [])
four w is = grind (arith, natural, ints)

-- no more than 1023, and in order
places : (w : Window) → IsWindow w → (nat_abs w.x_min ≤ nat_abs w.x_max) × (nat_abs w.x_max ≤ 1023) × (nat_abs w.y_min ≤ nat_abs w.y_max)
    × (nat_abs w.y_max ≤ 1023)
places w is = grind (arith, ints, nat_abs)

-- the places that are read of a window's text, one after another, are the window's
module _ (text : List ℕ) (w : Window) (h : IsWindowText text w) (a : ℕ) (past_a : List ℕ)
    (at_a : (a ≤ 1023) × (text ≡ decimal a ++ 44 ∷ past_a)) where
  first : (a ≡ nat_abs w.x_min) × (past_a
      ≡ join_with_byte 44 (decimal (nat_abs w.x_max) ∷ decimal (nat_abs w.y_min) ∷ decimal (nat_abs w.y_max) ∷ []))
  first = same_place a (nat_abs w.x_min) text past_a _ at_a.0 (omega (arith, places w h.0)) at_a.1 (h.1 ∙ four w h.0)

  pub has_second : ((n : ℕ) (rest : List ℕ) → n ≤ 1023 → past_a ≡ decimal n ++ 44 ∷ rest → ⊥) → ⊥
  has_second none = none (nat_abs w.x_max) _ (places w h.0).1 first.1

  module _ (b : ℕ) (past_b : List ℕ) (at_b : (b ≤ 1023) × (past_a ≡ decimal b ++ 44 ∷ past_b)) where
    second : (b ≡ nat_abs w.x_max) × (past_b ≡ join_with_byte 44 (decimal (nat_abs w.y_min) ∷ decimal (nat_abs w.y_max) ∷ []))
    second = same_place b (nat_abs w.x_max) past_a past_b _ at_b.0 (places w h.0).1 at_b.1 first.1

    pub has_third : ((n : ℕ) (rest : List ℕ) → n ≤ 1023 → past_b ≡ decimal n ++ 44 ∷ rest → ⊥) → ⊥
    has_third none = none (nat_abs w.y_min) _ (omega (arith, places w h.0)) second.1

    module _ (c : ℕ) (past_c : List ℕ) (at_c : (c ≤ 1023) × (past_b ≡ decimal c ++ 44 ∷ past_c)) where
      third : (c ≡ nat_abs w.y_min) × (past_c ≡ decimal (nat_abs w.y_max))
      third = same_place c (nat_abs w.y_min) past_b past_c _ at_c.0 (omega (arith, places w h.0)) at_c.1 second.1

      pub has_fourth : ((n : ℕ) → n ≤ 1023 → past_c ≡ decimal n → ⊥) → ⊥
      has_fourth none = none (nat_abs w.y_max) (places w h.0).3 third.1

      pub is_window : (d : ℕ) → (d ≤ 1023) × (past_c ≡ decimal d)
          → IsWindow (record { x_min = pos a; x_max = pos b; y_min = pos c; y_max = pos d })
      is_window d at_d =
          let fourth : d ≡ nat_abs w.y_max =
          same_decimal d (nat_abs w.y_max) (omega (arith, at_d.0)) (omega (arith, places w h.0)) (sym at_d.1 ∙ third.1) in
          let across : a ≤ b = omega (arith, first.0, second.0, places w h.0) in
          let up : c ≤ d = omega (arith, third.0, fourth, places w h.0) in
          search rules

pub if_none : {A : Type 0} {P Q : Type 0} (o : Option A) → (P → Q) → IfNone o P → IfNone o Q
if_none o f p = grind (arith)
