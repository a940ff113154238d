-- The turns of a repeat.
use Rattle.dvg_recipe.proofs.Common.{◌≡◌, ◌≤◌, ◌<◌, ◌+◌, ◌-◌, ◌++◌, ℕ, zero, suc, List, [], ◌∷◌, Contains, Contains-append_cases, Contains-append_left, Contains-append_right, refl, sym, subst, inl, inr, ⊎_elim, arith, cases_lt}
use Rattle.dvg_recipe.specs.Private.Indices.{Leads, Both, TimesOver, Turns, IsPast, IsJoined}
use Rattle.std.specs.Prelude.{◌↔◌}
use Rattle.dvg_recipe.proofs.Sets.{is_alone, alone}
use Rattle.dvg_recipe.proofs.PastParts.{past_as, past_both, past_same, past_to}

module _ (R : Leads) where
  times_join : (n : ℕ) (i j : ℕ) → Both (TimesOver n R) R i j → TimesOver (suc n) R i j
  times_join zero i j (k, same, leads) = (j, subst (λ m. R m j) same leads, refl)
  times_join (suc n) i j (k, (m, first, rest), last) = (m, first, times_join n m j (k, rest, last))

  times_split : (n m l : ℕ) (i j : ℕ) → l ≡ n + m → TimesOver l R i j → Both (TimesOver n R) (TimesOver m R) i j
  times_split zero m l i j is h = (i, refl, subst (λ x. TimesOver x R i j) (omega (arith, is)) h)
  times_split (suc n) m zero i j is h = absurd (omega (arith, is))
  times_split (suc n) m (suc l) i j is (k, first, rest) =
      let r = times_split n m l k j (omega (arith, is)) rest in (r.0, (k, first, r.1), r.2)

  times_sum : (n m l : ℕ) (i j : ℕ) → l ≡ n + m → Both (TimesOver n R) (TimesOver m R) i j → TimesOver l R i j
  times_sum zero m l i j is (k, same, rest) = subst (λ x. TimesOver x R i j) (omega (arith, is)) (subst (λ x. TimesOver m R x j) same rest)
  times_sum (suc n) m zero i j is h = absurd (omega (arith, is))
  times_sum (suc n) m (suc l) i j is (k, (x, first, rest), last) = (x, first, times_sum n m l x j (omega (arith, is)) (k, rest, last))

  times_last : (n : ℕ) (i j : ℕ) → TimesOver (suc n) R i j → Both (TimesOver n R) R i j
  times_last zero i j (k, first, same) = (i, refl, subst (λ m. R i m) (sym same) first)
  times_last (suc n) i j (k, first, rest) = let r = times_last n k j rest in (r.0, (k, first, r.1), r.2)

  pub turn_next : (n m : ℕ) (xs ys zs : List ℕ) → m ≡ suc n → IsPast (TimesOver n R) xs ys → IsPast R ys zs → IsPast (TimesOver m R) xs zs
  turn_next n m xs ys zs is h k =
      subst (λ l. IsPast (TimesOver l R) xs zs) (sym is)
      (past_as _ (TimesOver (suc n) R) xs zs (times_join n) (times_last n) (past_both (TimesOver n R) R xs ys zs h k))

  -- where a turn leads from a set to itself, all further turns do
  pub turns_same : (n least most : ℕ) (xs here after : List ℕ) → n ≤ least → least ≤ most → IsPast (TimesOver n R) xs here
      → IsPast R here after → after ≡ here → IsPast (Turns least most R) xs after
  turns_same n least most xs here after few some h k is = record {
    each = λ j. (
      λ there. let r = ((same_from least few).each j).0 there in (r.0, r.1, (least, omega arith, some, r.2)),
      λ t. ((same_from t.2.0 (omega (arith, few, t.2.1))).each j).1 (t.0, t.1, t.2.3),
    );
  }
    where
      same_once : IsPast R here here
      same_once = past_to R here after here is k

      same_over : (m : ℕ) → IsPast (TimesOver m R) here here
      same_over zero = past_same here
      same_over (suc m) = past_both R (TimesOver m R) here here here same_once (same_over m)

      same_from : (m : ℕ) → n ≤ m → IsPast (TimesOver m R) xs after
      same_from m le =
          past_as (Both (TimesOver n R) (TimesOver (m - n) R)) (TimesOver m R) xs after
          (λ i j b. times_sum n (m - n) m i j (omega (arith, le)) b)
          (λ i j t. times_split n (m - n) m i j (omega (arith, le)) t)
          (past_both (TimesOver n R) (TimesOver (m - n) R) xs here after h
          (past_to (TimesOver (m - n) R) here here after (sym is) (same_over (m - n))))

  pub turns_first : (least : ℕ) (xs ys others : List ℕ) → ys ≡ others → IsPast (TimesOver least R) xs ys
      → IsPast (Turns least least R) xs others
  turns_first least xs ys others is h =
      past_to (Turns least least R) xs ys others is
      (past_as (TimesOver least R) (Turns least least R) xs ys (λ i j times. (least, omega arith, omega arith, times)) just h)
    where
      just : (i j : ℕ) → Turns least least R i j → TimesOver least R i j
      just i j (n, low, high, times) = subst (λ m. TimesOver m R i j) (omega (arith, low, high)) times

  -- the indices to which fewer than so many turns lead from one index, `least` at the least
  abbrev pub AreFewer : ℕ → ℕ → ℕ → List ℕ → Type 0
  AreFewer least turn i ends = (j : ℕ) → Contains ends j ↔ ((n : ℕ) × (least ≤ n) × (n < turn) × TimesOver n R i j)

  pub fewer_none : (least i : ℕ) (ends : List ℕ) → ends ≡ [] → AreFewer least 0 i ends
  fewer_none least i ends is j = (
    λ there. absurd (let k = subst (λ (l : List ℕ). Contains l j) is there in omega (arith, k.1)),
    λ t. absurd (omega (arith, t.2)),
  )

  module _ (least turn next i : ℕ) (is : next ≡ suc turn) (ends : List ℕ) (h : AreFewer least turn i ends) where
    pub fewer_skip : turn < least → AreFewer least next i ends
    fewer_skip early j = (
      λ there. let t = (h j).0 there in (t.0, t.1, omega (arith, is, t.2), t.3),
      λ t. absurd (omega (arith, early, is, t.1, t.2)),
    )

    pub fewer_push : (end : ℕ) (more : List ℕ) → more ≡ ends ++ end ∷ [] → least ≤ turn → TimesOver turn R i end
        → ((j : ℕ) → TimesOver turn R i j → j ≡ end) → AreFewer least next i more
    fewer_push end more grown late leads only j = (
      λ there. ⊎_elim
          (λ old. let t = (h j).0 old in (t.0, t.1, omega (arith, is, t.2), t.3))
          (λ new. (turn, late, omega (arith, is), subst (λ k. TimesOver turn R i k) (is_alone end j new) leads))
          (Contains-append_cases ends (end ∷ []) j (subst (λ (l : List ℕ). Contains l j) grown there)),
      λ t. subst (λ (l : List ℕ). Contains l j) (sym grown) (⊎_elim
          (λ less. Contains-append_left ends (end ∷ []) j ((h j).1 (t.0, t.1, less, t.3)))
          (λ last. Contains-append_right ends (end ∷ []) j (alone end j (sym (only j
          (subst (λ n. TimesOver n R i j) (omega (arith, is, last, t.2)) t.3)))))
          (cases_lt t.0 turn)),
    )

  module _ (turn next i end : ℕ) (is : next ≡ suc turn) (only : (j : ℕ) → TimesOver turn R i j → j ≡ end) where
    pub turns_step : (j : ℕ) → TimesOver turn R i end → R end j → TimesOver next R i j
    turns_step j before leads = subst (λ n. TimesOver n R i j) (sym is) (times_join turn i j (end, before, leads))

    pub turns_only : (k : ℕ) → ((j : ℕ) → R end j → j ≡ k) → (j : ℕ) → TimesOver next R i j → j ≡ k
    turns_only k one j times =
        let last = times_last turn i j (subst (λ n. TimesOver n R i j) is times) in
        one j (subst (λ x. R x j) (only last.0 last.1) last.2)

    -- where a turn leads nowhere, there are no more
    pub turns_end : (least most : ℕ) (ends : List ℕ) → AreFewer least next i ends → ((j : ℕ) → R end j → ⊥) → turn < most
        → IsPast (Turns least most R) (i ∷ []) ends
    turns_end least most ends h none lt = record {
      each = λ j. (
        λ there. let t = (h j).0 there in (i, alone i i refl, (t.0, t.1, omega (arith, is, lt, t.2), t.3)),
        λ t.
            let times = subst (λ x. TimesOver t.2.0 R x j) (sym (is_alone i t.0 t.1)) t.2.3 in
            ⊎_elim
            (λ less. (h j).1 (t.2.0, t.2.1, less, times))
            (λ more.
            let parts = times_split next (t.2.0 - next) t.2.0 i j (omega (arith, more)) times in
            let last = times_last turn i parts.0 (subst (λ n. TimesOver n R i parts.0) is parts.1) in
            absurd (none parts.0 (subst (λ x. R x parts.0) (only last.0 last.1) last.2)))
            (cases_lt t.2.0 next),
      );
    }

  pub turns_all : (least most last i : ℕ) (ends : List ℕ) → last ≡ suc most → AreFewer least last i ends
      → IsPast (Turns least most R) (i ∷ []) ends
  turns_all least most last i ends is h = record {
    each = λ j. (
      λ there. let t = (h j).0 there in (i, alone i i refl, (t.0, t.1, omega (arith, is, t.2), t.3)),
      λ t. (h j).1 (t.2.0, t.2.1, omega (arith, is, t.2.2), subst (λ x. TimesOver t.2.0 R x j) (sym (is_alone i t.0 t.1)) t.2.3),
    );
  }

  module _ (least n m : ℕ) (xs next here : List ℕ) (is : m ≡ suc n) (low : least ≤ n) (h : IsPast (Turns least n R) xs next)
      (k : IsPast (TimesOver m R) xs here) where
    pub turns_more : (more : List ℕ) → IsJoined next here more → IsPast (Turns least m R) xs more
    turns_more more join = record {
      each = λ j. (
        λ there. ⊎_elim
            (λ a. let t = (h.each j).0 a in (t.0, t.1, (t.2.0, t.2.1, omega (arith, is, t.2.2), t.2.3)))
            (λ b. let t = (k.each j).0 b in (t.0, t.1, (m, omega (arith, is, low), omega arith, t.2)))
            ((join.each j).0 there),
        λ t. (join.each j).1 (⊎_elim
            (λ less. inl ((h.each j).1 (t.0, t.1, (t.2.0, t.2.1, omega (arith, is, less), t.2.3))))
            (λ same. inr ((k.each j).1 (t.0, t.1, subst (λ l. TimesOver l R t.0 j) (omega (arith, same, t.2.2)) t.2.3)))
            (cases_lt t.2.0 m)),
      );
    }

    -- where one more turn adds nothing, no more turns do
    module _ (known : (j : ℕ) → Contains here j → Contains next j) where
      closed : (i j : ℕ) → Contains next i → R i j → Contains next j
      closed i j there leads =
          let t = (h.each i).0 there in
          let longer : TimesOver (suc t.2.0) R t.0 j = times_join t.2.0 t.0 j (i, t.2.3, leads) in
          ⊎_elim
          (λ less. (h.each j).1 (t.0, t.1, (suc t.2.0, omega (arith, t.2.1), omega (arith, less), longer)))
          (λ last. let at : suc t.2.0 ≡ m = omega (arith, is, last, t.2.2) in
          known j ((k.each j).1 (t.0, t.1, subst (λ l. TimesOver l R t.0 j) at longer)))
          (cases_lt t.2.0 n)

      closed_over : (l : ℕ) (i j : ℕ) → Contains next i → TimesOver l R i j → Contains next j
      closed_over zero i j there same = subst (λ x. Contains next x) (sym same) there
      closed_over (suc l) i j there (x, first, rest) = closed_over l x j (closed i x there first) rest

      pub turns_closed : (most : ℕ) → n ≤ most → IsPast (Turns least most R) xs next
      turns_closed most le = record {
        each = λ j. (
          λ there. let t = (h.each j).0 there in (t.0, t.1, (t.2.0, t.2.1, omega (arith, le, t.2.2), t.2.3)),
          λ t.
              let s = times_split least (t.2.0 - least) t.2.0 t.0 j (omega (arith, t.2.1)) t.2.3 in
              closed_over (t.2.0 - least) s.0 j ((h.each s.0).1 (t.0, t.1, (least, omega arith, low, s.1))) s.2,
        );
      }
