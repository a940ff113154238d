-- The stack of shapes in the making, as pairs of an address and key with a shape.
use Rattle.dvg_make.proofs.Common.{◌≡◌, ℕ, zero, suc, ◌+◌, ◌-◌, ◌<◌, List, [], ◌∷◌, ◌++◌, length, Some, None, refl, ap, ◌∙◌, arith, values_of, Key, at_holds, pair_test, PartialEntry, All, IsOwnPartial, IsMaking, rules, common_steps, cond, is_some, lookup, All-nil, All-cons, All-head, All-tail, slice_range, at_means, pair_eq, Bool, true, slice_get}
use Rattle.indexmap.specs.IndexMap.{set_value_at}
use Rattle.indexmap.proofs.MapLemmas.{split_last}

abbrev Pairs : Type 0
Pairs = List ((ℕ × Key) × PartialEntry)

module _ (addr : ℕ) (key : Key) where
  abbrev test : ℕ × Key → Bool
  test = pair_eq (addr, key)

  own_means : (p : (ℕ × Key) × PartialEntry) → IsOwnPartial p → test p.0 ≡ true → (p.1.addr ≡ addr) × (p.1.key ≡ key)
  own_means p own t = grind (arith, at_means, pair_test)

  -- what is found has the address and the key, and is in the making
  pub found_own : (ps : Pairs) → All IsOwnPartial ps → (w : PartialEntry) → lookup test ps ≡ Some w → ((w.addr ≡ addr) × (w.key ≡ key))
      × IsMaking (values_of ps) addr key
  found_own [] own w e = cc e
  found_own (p ∷ ps) own w e =
      grind (arith, cond, lookup, (own_means p (All-head IsOwnPartial p ps own)), (found_own ps (All-tail IsOwnPartial p ps own) w))

  -- what is in the making is found
  pub making_found : (ps : Pairs) → All IsOwnPartial ps → IsMaking (values_of ps) addr key → is_some (lookup test ps) ≡ true
  making_found [] own m = absurd m
  making_found (p ∷ ps) own m =
      grind (
        arith,
        is_some,
        cond,
        lookup,
        at_holds,
        pair_test,
        (All-head IsOwnPartial p ps own),
        (making_found ps (All-tail IsOwnPartial p ps own)),
      )

  pub none_found : (ps : Pairs) → All IsOwnPartial ps → (IsMaking (values_of ps) addr key → ⊥) → lookup test ps ≡ None
  none_found ps own not = grind (arith, found_own)

-- ---- the top

pub values_push : (ps qs : Pairs) → values_of (ps ++ qs) ≡ values_of ps ++ values_of qs
values_push [] qs = refl
values_push (p ∷ ps) qs = ap (λ (l : List PartialEntry). p.1 ∷ l) (values_push ps qs)

not_nil : {P : Type 0} (x : PartialEntry) (xs ys : List PartialEntry) → [] ≡ xs ++ x ∷ ys → P
not_nil x [] ys e = cc e
not_nil x (z ∷ xs) ys e = cc e

-- the value of the last pair is another
pub set_last : (ps : Pairs) (n : ℕ) (rest : List PartialEntry) (old w : PartialEntry) → n + 1 ≡ length ps
    → values_of ps ≡ rest ++ old ∷ [] → (values_of (set_value_at ps n w) ≡ rest ++ w ∷ [])
    × (old.addr ≡ w.addr → old.key ≡ w.key → All IsOwnPartial ps → All IsOwnPartial (set_value_at ps n w))
set_last [] n rest old w long e = not_nil old rest [] e
set_last (p ∷ []) zero [] old w long e = (
  refl,
  λ a k own. All-cons IsOwnPartial (p.0, w) []
      (All-head IsOwnPartial p [] own ∙ (let same : p.1 ≡ old = cc e in ap (λ (x : PartialEntry). (x.addr, x.key)) same)
      ∙ (λ j. (a j, k j))) (All-nil IsOwnPartial),
)
set_last (p ∷ []) zero (r ∷ rest) old w long e = not_nil old rest [] (cc e)
set_last (p ∷ q ∷ ps) (suc n) [] old w long e = absurd (cc e)
set_last (p ∷ q ∷ ps) (suc n) (r ∷ rest) old w long e =
    let first : p.1 ≡ r = cc e in
    let more = set_last (q ∷ ps) n rest old w (omega (arith, long)) (cc e) in (
      (λ j. first j ∷ more.0 j),
      λ a k own. All-cons IsOwnPartial p (set_value_at (q ∷ ps) n w) (All-head IsOwnPartial p (q ∷ ps) own)
          (more.1 a k (All-tail IsOwnPartial p (q ∷ ps) own)),
    )
set_last ps n rest old w long e = absurd (omega (arith, long))

-- the last of them
pub top_is : (ps : Pairs) (p : (ℕ × Key) × PartialEntry) → slice_get ps (length ps - 1) ≡ Some p → 0 < length ps
    → (rest : List PartialEntry) × (values_of ps ≡ rest ++ p.1 ∷ [])
top_is ps p at some = (
  values_of (slice_range ps 0 (length ps - 1)),
  ap values_of (split_last ps p at some) ∙ values_push (slice_range ps 0 (length ps - 1)) (p ∷ []),
)

pub one_less : (ps : Pairs) (rest : List PartialEntry) (old : PartialEntry) → values_of ps ≡ rest ++ old ∷ []
    → length ps - 1 + 1 ≡ length ps
one_less ps rest old e = grind (arith, rules, common_steps, not_nil)
