-- Sets of hulls.
use Rattle.dvg_recipe.proofs.Common.{◌≡◌, ◌<◌, ◌⊎◌, ◌∙◌, ℕ, suc, zero, List, [], ◌∷◌, ◌++◌, length, take, get_or, take-suc, take_all, sym, subst, ap, inl, inr, ⊎_elim, arith, cases_lt, Contains, Contains-append_cases, Contains-get_or}
use Rattle.std.proofs.lemmas.List.{length-set, get_or-set_same, get_or-set_other}
use Rattle.std.proofs.Common.{set, ◌≤◌}
use Rattle.dvg_check.proofs.Common.{Known, ◌≢◌}
use Rattle.dvg_recipe.specs.Private.Hulls.{Hull, Covers, AreUnder, IsInHull, HasScaleAt, joined}
use Rattle.dvg_recipe.specs.Limits.{PieceFits, RowFits}
use Rattle.dvg_recipe.specs.Recipes.{Piece, Jump}
use Rattle.dvg_recipe.specs.Private.Judging.{IsWithin, AreWithin}
use Rattle.dvg_recipe.proofs.Past.{hull_one, hull_other}

pub under_same : (xs : List Hull) → AreUnder xs xs
under_same xs = record { each = λ k h. h }

pub under_on : (xs ys zs : List Hull) → AreUnder xs ys → AreUnder ys zs → AreUnder xs zs
under_on xs ys zs h k = record { each = λ known c. k.each known (h.each known c) }

pub listed_alone : (x s : Hull) → Contains (x ∷ []) s → x ≡ s
listed_alone x s (zero, lt, is) = is
listed_alone x s (suc k, lt, is) = absurd (omega (arith, lt))

pub none_covered : (k : Known) → Covers [] k → ⊥
none_covered k c = absurd (omega (arith, c.listed.1))

same_or_not : (k i : ℕ) → (k ≡ i) ⊎ (k ≢ i)
same_or_not k i =
    ⊎_elim (λ h. inr (λ e. omega (arith, h, e)))
    (λ h. ⊎_elim (λ le. inr (λ e. omega (arith, le, e))) (λ ge. inl (omega (arith, h, ge))) (cases_lt i k)) (cases_lt k i)

module _ (xs : List Hull) (i : ℕ) (x : Hull) (lt : i < length xs) where
  same_length : length (set xs i x) ≡ length xs
  same_length = length-set xs i x

  at_set : (d : Hull) → get_or (set xs i x) i d ≡ x
  at_set d = get_or-set_same xs i x d lt

  set_has : Contains (set xs i x) x
  set_has = (i, omega (arith, lt, same_length), at_set x)

  pub set_added : (h : Hull) → ((k : Known) → IsInHull h k → IsInHull x k) → AreUnder (h ∷ []) (set xs i x)
  set_added h wider =
      record {
        each = λ k c. record {
          hull = x;
          listed = set_has;
          inside =
              wider k (subst (λ (y : Hull). IsInHull y k) (sym (listed_alone h c.hull c.listed)) c.inside);
        };
      }

  pub set_kept : ((d : Hull) (k : Known) → IsInHull (get_or xs i d) k → IsInHull x k) → AreUnder xs (set xs i x)
  set_kept wider = record { each = λ k c. kept k c.hull c.inside c.listed }
    where
      kept : (k : Known) (t : Hull) → IsInHull t k → Contains xs t → Covers (set xs i x) k
      kept k t inside (n, less, is) =
          ⊎_elim (λ same. record {
            hull = x;
            listed = set_has;
            inside =
                wider t k (subst (λ (y : Hull). IsInHull y k) (sym is ∙ ap (λ m. get_or xs m t) same) inside);
          })
          (λ other. record {
            hull = t;
            listed = (n, omega (arith, less, same_length), get_or-set_other xs i n x t other ∙ is);
            inside =
                inside;
          }) (same_or_not n i)

-- ---- one hull after another

-- one of the first hulls is one of those before the last of them, or it is the last
pub next_listed : (xs : List Hull) (i n : ℕ) (d x : Hull) → n ≡ suc i → i < length xs → d ≡ get_or xs i d → Contains (take n xs) x
    → Contains (take i xs ++ d ∷ []) x
next_listed xs i n d x is lt at there =
    subst (λ (y : Hull). Contains (take i xs ++ y ∷ []) x) (sym at)
    (subst (λ (l : List Hull). Contains l x) (take-suc xs i d lt) (subst (λ m. Contains (take m xs) x) is there))

pub under_next : (xs zs : List Hull) (i n : ℕ) (d : Hull) → n ≡ suc i → i < length xs → d ≡ get_or xs i d → AreUnder (take i xs) zs
    → AreUnder (d ∷ []) zs → AreUnder (take n xs) zs
under_next xs zs i n d is lt at h new = record {
  each = λ k c. ⊎_elim (λ old. h.each k (record { hull = c.hull; listed = old; inside = c.inside }))
      (λ alone. new.each k (record { hull = c.hull; listed = alone; inside = c.inside }))
      (Contains-append_cases (take i xs) (d ∷ []) c.hull (next_listed xs i n d c.hull is lt at c.listed));
}

pub under_whole : (xs zs : List Hull) (i : ℕ) → length xs ≤ i → AreUnder (take i xs) zs → AreUnder xs zs
under_whole xs zs i le h = subst (λ (l : List Hull). AreUnder l zs) (take_all i xs le) h

pub under_none : (xs zs : List Hull) → AreUnder (take 0 xs) zs
under_none xs zs = record { each = λ k c. absurd (none_covered k c) }

-- ---- a hull in place of one of its scale

module _ (xs : List Hull) (i : ℕ) (x y h : Hull) (lt : i < length xs) (at : (d : Hull) → get_or xs i d ≡ y) (is : x ≡ joined y h) where
  pub join_kept : AreUnder xs (set xs i x)
  join_kept = set_kept xs i x lt
      (λ d k inside. subst (λ (z : Hull). IsInHull z k) (sym is) (hull_one y h k (subst (λ (z : Hull). IsInHull z k) (at d) inside)))

  pub join_added : y.scale ≡ h.scale → AreUnder (h ∷ []) (set xs i x)
  join_added same = set_added xs i x lt h (λ k inside. subst (λ (z : Hull). IsInHull z k) (sym is) (hull_other y h k same inside))

pub scale_at : (xs ys : List Hull) (i : ℕ) (g h : Hull) → xs ≡ ys → g ≡ h → HasScaleAt xs g.scale i → HasScaleAt ys h.scale i
scale_at xs ys i g h same is has =
    subst (λ (l : List Hull). HasScaleAt l h.scale i) same (subst (λ (x : Hull). HasScaleAt xs x.scale i) is has)

-- ---- pieces and jumps within their limits

pub piece_at : (row : List Piece) (i : ℕ) (d : Piece) → RowFits row → i < length row → PieceFits (get_or row i d).kind
piece_at row i d h lt = h.each (get_or row i d) (Contains-get_or row i d lt)

pub piece_got : (row : List Piece) (i : ℕ) (p : Piece) → RowFits row → i < length row → get_or row i p ≡ p → PieceFits p.kind
piece_got row i p h lt is = h.each p (i, lt, is)

pub jump_at : (jumps : List Jump) (i : ℕ) (d : Jump) → AreWithin jumps → i < length jumps → IsWithin (get_or jumps i d).body
jump_at jumps i d h lt = h.each (get_or jumps i d) (Contains-get_or jumps i d lt)
