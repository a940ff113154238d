-- How the text of milliseconds is cut at its point, and that it spells one number.
use Rattle.dvg_spelling.proofs.Common.{◌≡◌, ◌≢◌, ℕ, ◌<◌, ◌≤◌, List, [], ◌∷◌, ◌++◌, length, get_or, Option, None, Some, Bor, refl, sym, ap, arith, ◌∙◌, decimal}
use Rattle.std.specs.Prelude.{◌*◌, ◌+◌, MatchOption}
use Rattle.std.proofs.Common.{inl, inr, length-append, subst}
use Rattle.std.proofs.Math.Seq.{get_or-append_seam}
use Rattle.std.proofs.lemmas.Str.Parse.{not_in_digits}
use Rattle.std.proofs.lemmas.Str.Pattern.{split_after, split_parts, IsSplitOnceResult}
use Rattle.dvg_text.proofs.Digits.{own, same_decimal}
use Rattle.dvg_text.proofs.FieldValues.{first_digit}
use Rattle.dvg_text.proofs.Leading.{same_number}
use Rattle.dvg_spelling.specs.Within.{HasPoint, IsFraction, IsThousandths, IsWhole}

-- no digit is a point
no_point : (n : ℕ) → n ≤ 10000 → (i : ℕ) → i < length (decimal n) → get_or (decimal n) i 0 ≢ 46
no_point n le = not_in_digits own (decimal n) 46 (first_digit (decimal n) n (omega (arith, le)) refl).1 (λ r. omega (arith, r.0))

-- what has a point is no whole number
pointed : (before after text : List ℕ) → text ≡ before ++ 46 ∷ after → (n : ℕ) → IsWhole text n → ⊥
pointed before after text is n h =
    let same : decimal n ≡ before ++ 46 ∷ after = sym h.1 ∙ is in
    let more : length before < length (decimal n) = omega (arith, ap length same, length-append before (46 ∷ after)) in
    no_point n h.0 (length before) more (ap (λ l. get_or l (length before) 0) same ∙ get_or-append_seam before 46 after 0)

abbrev Cut : Type 0
Cut = Option (Bor (List ℕ) × Bor (List ℕ))

module _ (text : List ℕ) (r : Cut) (cut : IsSplitOnceResult 46 text r) where
  parts : (h : (value : ℕ) × HasPoint text value) → MatchOption r ⊥ (λ x. (x.0.now ≡ decimal h.1.whole) × (x.1.now ≡ h.1.digits))
  parts h = split_after 46 text (decimal h.1.whole) h.1.digits r cut (omega arith) h.1.text_is (no_point h.1.whole h.1.few)

  pub none_whole : r ≡ None → ((n : ℕ) → n ≤ 10000 → text ≡ decimal n → ⊥) → (value : ℕ) → IsThousandths text value → ⊥
  none_whole is none value (inl h) = none h.0 h.1.0 h.1.1
  none_whole is none value (inr h) =
      subst (λ (o : Cut). MatchOption o ⊥ (λ x. (x.0.now ≡ decimal h.whole) × (x.1.now ≡ h.digits))) is (parts (value, h))

  module _ (x : Bor (List ℕ) × Bor (List ℕ)) (is : r ≡ Some x) where
    with_point : (n : ℕ) → IsWhole text n → ⊥
    with_point n h =
        let k = subst (λ (o : Cut). MatchOption o ((i : ℕ) → i < length text → get_or text i 0 ≢ 46)
        (λ y. (text ≡ y.0.now ++ (46 ∷ y.1.now)) × ((i : ℕ) → i < length y.0.now → get_or y.0.now i 0 ≢ 46))) is
        (split_parts 46 text r cut (omega arith)) in
        pointed x.0.now x.1.now text k.0 n h

    its_parts : (value : ℕ) (h : HasPoint text value) → (x.0.now ≡ decimal h.whole) × (x.1.now ≡ h.digits)
    its_parts value h = subst (λ (o : Cut). MatchOption o ⊥ (λ y. (y.0.now ≡ decimal h.whole) × (y.1.now ≡ h.digits))) is (parts (value, h))

    pub none_before : ((n : ℕ) → n ≤ 10000 → x.0.now ≡ decimal n → ⊥) → (value : ℕ) → IsThousandths text value → ⊥
    none_before none value (inl h) = with_point h.0 h.1
    none_before none value (inr h) = none h.whole h.few (its_parts value h).0

    pub none_behind : ((value : ℕ) → IsFraction x.1.now value → ⊥) → (value : ℕ) → IsThousandths text value → ⊥
    none_behind none value (inl h) = with_point h.0 h.1
    none_behind none value (inr h) = none h.fraction (subst (λ l. IsFraction l h.fraction) (sym (its_parts value h).1) h.fraction_is)

-- ---- a text spells one number

one_fraction : (digits : List ℕ) (f g : ℕ) → IsFraction digits f → IsFraction digits g → f ≡ g
one_fraction (a ∷ []) f g h k = h.1 ∙ sym k.1
one_fraction (a ∷ b ∷ []) f g h k = h.2 ∙ sym k.2
one_fraction (a ∷ b ∷ c ∷ []) f g h k = h.3 ∙ sym k.3
one_fraction digits f g h k = absurd (grind (arith))

pub one_value : (text : List ℕ) (a b : ℕ) → IsThousandths text a → IsThousandths text b → a ≡ b
one_value text a b (inl h) (inl k) =
    h.2 ∙ ap (λ n. 1000 * n) (same_decimal h.0 k.0 (omega (arith, h.1.0)) (omega (arith, k.1.0)) (sym h.1.1 ∙ k.1.1)) ∙ sym k.2
one_value text a b (inl h) (inr k) = absurd (pointed (decimal k.whole) k.digits text k.text_is h.0 h.1)
one_value text a b (inr h) (inl k) = absurd (pointed (decimal h.whole) h.digits text h.text_is k.0 k.1)
one_value text a b (inr h) (inr k) =
    let t = same_number h.whole k.whole text (46 ∷ h.digits) (46 ∷ k.digits) (omega (arith, h.few)) (omega (arith, k.few))
    (λ d. omega (arith, d)) (λ d. omega (arith, d)) h.text_is k.text_is in
    let rest : 46 ∷ h.digits ≡ 46 ∷ k.digits = t.1 in
    let digits : h.digits ≡ k.digits = cc in
    let fraction = one_fraction k.digits h.fraction k.fraction (subst (λ l. IsFraction l h.fraction) digits h.fraction_is) k.fraction_is in
    omega (arith, h.value_is, k.value_is, t.0, fraction)
