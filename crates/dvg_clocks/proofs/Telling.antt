-- What the loop over the entries of a certificate keeps: those with fewer words come first.
use Rattle.dvg_clocks.proofs.Common.{◌≡◌, ℕ, ◌+◌, ◌*◌, ◌≤◌, ◌<◌, Bool, true, List, [], ◌∷◌, length, Option, Some, None, refl, sym, ◌∙◌, ap, subst, arith, inl, inr, ◌⊎◌, ⊎_elim, Contains, Entry, Key, Rom, rom_word, Shape, shape_context, words_before, ClockRange, States, just, clocks_known, sum_of, AreGood, WORD_CLOCKS, Kept, found_at, clocks_in, IsKeptToo, IsFewFor, AreAllFew, IsToldOf, AreTold, IsTaken, IsWalkable}
use Rattle.std.specs.Prelude.{◌==◌, ◌&&◌, cond, false, get_or, unwrap_or, IfSome, IfNone, IsPermutation}
use Rattle.std.specs.List.Sorted.{IsNonDecreasingBy}
use Rattle.std.proofs.lemmas.List.{get_or_default}
use Rattle.std.proofs.Math.Nat.{mul-le-mul_left}
use Rattle.std.proofs.lemmas.List.Sorted.{Contains-permutation, IsPermutation-sym}
use Rattle.dvg_cert.specs.Lookup.{same_key, entry_at, IsOnlyAt, HasNoneAt}
use Rattle.dvg_cert.specs.Order.{IsRising}
use Rattle.dvg_cert.proofs.OnlyEntries.{found}
use Rattle.dvg_check.proofs.Common.{listed_claim, IsSomeCertificate}
use Rattle.dvg_check.specs.declared.fault.ShapeWhy.TheVariants as shape
use Rattle.dvg_clocks.proofs.ShapeRuns.{rule}
use Rattle.dvg_clocks.proofs.Entries.{same_taken}
use Rattle.dvg_clocks.proofs.Existing.{entries_sum}
use Rattle.dvg_clocks.proofs.Walking.{shape_few}

-- an entry of a certificate is the only one at its address and key
only : (list : List Entry) → IsRising list → (e f : Entry) → Contains list e → Contains list f → f.addr ≡ e.addr → f.key ≡ e.key → f ≡ e
only list rising e f he hf a k = by (entry_at list e.addr e.key) (found list e.addr e.key rising)
  where
    by : (o : Option Entry) → IfSome o (IsOnlyAt list e.addr e.key) × IfNone o (HasNoneAt list e.addr e.key) → f ≡ e
    by None h = absurd (h.1 e he refl refl)
    by (Some g) h = h.0.3 f hf a k ∙ sym (h.0.3 e he refl refl)

itself : (e : Entry) → ((e.addr == e.addr) && same_key e.key e.key) ≡ true
itself e = grind (arith)

key_same : (k l : Key) → same_key k l ≡ true → k ≡ l
key_same k l h = grind (arith)

module _ (t : States) (rom : Rom) (list order : List Entry) where
  -- those before the next one are told, those with fewer words first
  pub record Telling (n : ℕ) (kept : Kept) : Type 0 where
    pub moves : IsPermutation list order
    pub rising : IsNonDecreasingBy (λ (e : Entry). e.words) order
    pub told : (e : Entry) (i : ℕ) → i < n → i < length order → get_or order i e ≡ e → IsToldOf t rom list kept e
    pub few : AreAllFew kept list

  pub begins : IsPermutation list order → IsNonDecreasingBy (λ (e : Entry). e.words) order → Telling 0 []
  begins moves rising =
      record {
        moves = moves;
        rising = rising;
        told = λ e i lt. absurd (omega (arith, lt));
        few =
            λ e listed. record { ordered = omega arith; few = omega arith };
      }

  pub ends : (kept : Kept) (n : ℕ) → length order ≤ n → Telling n kept → AreTold t rom list kept
  ends kept n all k e h =
      let (i, lt, is) = Contains-permutation list order e k.moves h in
      k.told e i (omega (arith, lt, all)) lt is

  module _ (certificate : IsSomeCertificate list) (good : AreGood rom list) where
    pub walkable : (e : Entry) → Contains list e → IsWalkable (rom_word rom) list (record { kind = Shape; at = e.addr; scale = e.key })
    walkable e h = record { most = e.words; within = (listed_claim list e certificate h).words; few = shape_few rom list good e h }

    module _ (n : ℕ) (kept : Kept) (k : Telling n kept) (d : Entry) (lt : n < length order) where
      abbrev e : Entry
      e = get_or order n d

      listed : (f : Entry) → Contains order f → Contains list f
      listed f h = Contains-permutation order list f (IsPermutation-sym list order k.moves) h

      pub here : Contains list e
      here = listed e (n, lt, get_or_default order n e d lt)

      -- what has fewer words is told
      fewer : (g : Entry) → Contains list g → g.words < e.words → clocks_in kept g ≡ sum_of (clocks_known t) rom list g
      fewer g h less = by (Contains-permutation list order g k.moves h)
        where
          before : (i : ℕ) → i < length order → get_or order i g ≡ g → ((n ≤ i) → ⊥)
          before i small is le =
              let up = k.rising n i g le small in
              let same : get_or order n g ≡ e = get_or_default order n g d lt in
              omega (arith, less, up, ap (λ (x : Entry). x.words) same, ap (λ (x : Entry). x.words) is)

          by : Contains order g → clocks_in kept g ≡ sum_of (clocks_known t) rom list g
          by c = ap (λ o. unwrap_or o (just 0)) (k.told g c.0 (nat_below c.0 (before c.0 c.1 c.2)) c.1 c.2).told
            where
              nat_below : (i : ℕ) → ((n ≤ i) → ⊥) → i < n
              nat_below i not = grind (arith)

      module _ (clocks : ClockRange) (limit : ℕ)
          (taken : IsTaken t (rom_word rom) list kept (record { kind = Shape; at = e.addr; scale = e.key }) limit clocks) where
        words_few : words_before (shape_context rom.machine list e) (taken.item ∷ taken.items) ≤ e.words
        words_few = rule good.mode rom good.window list e (good.good e here) taken.items taken.item taken.whole.lead taken.whole.is
            shape.TooManyWords

        sum_is : clocks ≡ sum_of (clocks_known t) rom list e
        sum_is =
            taken.sum_is
            ∙ same_taken (clocks_known t) (clocks_in kept) (sum_of (clocks_known t) rom list) (shape_context rom.machine list e)
            (taken.item ∷ taken.items) (λ g h less. fewer g h (omega (arith, less, words_few)))
            ∙ sym (entries_sum (clocks_known t) good.mode good.window rom list good.good e here taken.items taken.item taken.whole.lead
            taken.whole.is taken.whole.last)

        few_words : clocks.most ≤ WORD_CLOCKS * e.words
        few_words = omega (arith, taken.few, mul-le-mul_left WORD_CLOCKS words_few)

        module _ (more : Kept) (adds : IsKeptToo e clocks kept more) where
          -- at an entry's address and key there is what was there, or it is this entry
          pub either : (f : Entry) → Contains list f → (f ≡ e) × (found_at more f.addr f.key ≡ Some clocks)
              ⊎ (found_at more f.addr f.key ≡ found_at kept f.addr f.key)
          either f h = by ((e.addr == f.addr) && same_key e.key f.key) refl
            where
              by : (b : Bool) → ((e.addr == f.addr) && same_key e.key f.key) ≡ b → (f ≡ e) × (found_at more f.addr f.key ≡ Some clocks)
                  ⊎ (found_at more f.addr f.key ≡ found_at kept f.addr f.key)
              by true is =
                  inl (
                    only list certificate.1.rising e f here h (grind (arith, is)) (sym (key_same e.key f.key (grind (arith, is)))),
                    adds f.addr f.key ∙ ap (λ b. cond b (Some clocks) (found_at kept f.addr f.key)) is,
                  )
              by false is = inr (adds f.addr f.key ∙ ap (λ b. cond b (Some clocks) (found_at kept f.addr f.key)) is)

          found_here : found_at more e.addr e.key ≡ Some clocks
          found_here = adds e.addr e.key ∙ ap (λ b. cond b (Some clocks) (found_at kept e.addr e.key)) (itself e)

          told_this : (f : Entry) → f ≡ e → found_at more f.addr f.key ≡ Some clocks → IsToldOf t rom list more f
          told_this f is found =
              record {
                told = found ∙ ap (λ x. Some x) sum_is ∙ ap (λ x. Some (sum_of (clocks_known t) rom list x)) (sym is);
                few = record {
                  ordered = subst (λ o. (unwrap_or o (just 0)).least ≤ (unwrap_or o (just 0)).most) (sym found) taken.ordered;
                  few = subst (λ o. (unwrap_or o (just 0)).most ≤ WORD_CLOCKS * f.words) (sym found)
                      (subst (λ (x : Entry). clocks.most ≤ WORD_CLOCKS * x.words) (sym is) few_words);
                };
              }

          few_still : (f : Entry) → found_at more f.addr f.key ≡ found_at kept f.addr f.key → IsFewFor kept f → IsFewFor more f
          few_still f same h =
              record {
                ordered = subst (λ o. (unwrap_or o (just 0)).least ≤ (unwrap_or o (just 0)).most) (sym same) h.ordered;
                few = subst (λ o. (unwrap_or o (just 0)).most ≤ WORD_CLOCKS * f.words) (sym same) h.few;
              }

          told_still : (f : Entry) → Contains list f → IsToldOf t rom list kept f → IsToldOf t rom list more f
          told_still f h was =
              ⊎_elim (λ now. told_this f now.0 now.1) (λ same. record { told = same ∙ was.told; few = few_still f same was.few })
              (either f h)

          pub onward : Telling (n + 1) more
          onward =
              record {
                moves = k.moves;
                rising = k.rising;
                told = λ f i below small is. by f i below small is (i == n) refl;
                few = λ f h. ⊎_elim (λ now. (told_this f now.0 now.1).few) (λ same. few_still f same (k.few f h)) (either f h);
              }
            where
              by : (f : Entry) (i : ℕ) → i < n + 1 → i < length order → get_or order i f ≡ f → (b : Bool) → (i == n) ≡ b
                  → IsToldOf t rom list more f
              by f i below small is true eq =
                  let at : i ≡ n = grind (arith, eq) in
                  let same : f ≡ e = sym is ∙ ap (λ j. get_or order j f) at ∙ get_or_default order n f d lt in
                  told_this f same (subst (λ (x : Entry). found_at more x.addr x.key ≡ Some clocks) (sym same) found_here)
              by f i below small is false eq = told_still f (listed f (i, small, is)) (k.told f i (grind (arith, eq, below)) small is)
