-- Sets of indices, as lists.
use Rattle.dvg_recipe.proofs.Common.{◌≡◌, ◌<◌, ◌++◌, ℕ, zero, suc, List, [], ◌∷◌, Contains, insert, length, take, drop, get_or, sym, subst, inl, inr, ⊎_elim, arith, take-append-drop, take-suc, Contains-append_cases, Contains-append_left, Contains-append_right}
use Rattle.dvg_recipe.specs.Private.Indices.{IsJoined}

pub is_alone : (x j : ℕ) → Contains (x ∷ []) j → x ≡ j
is_alone x j (zero, lt, is) = is
is_alone x j (suc k, lt, is) = absurd (omega (arith, lt))

pub alone : (x j : ℕ) → x ≡ j → Contains (x ∷ []) j
alone x j is = (zero, omega arith, is)

pub joined_as : (xs ys zs others : List ℕ) → zs ≡ others → IsJoined xs ys zs → IsJoined xs ys others
joined_as xs ys zs others is h = subst (λ (l : List ℕ). IsJoined xs ys l) is h

-- an index inserted
pub joined_insert : (xs : List ℕ) (i x : ℕ) → IsJoined xs (x ∷ []) (insert xs i x)
joined_insert xs i x = record {
  each = λ j.
      let whole : (k : ℕ) → Contains (take i xs ++ drop i xs) k → Contains xs k =
      λ k h. subst (λ (l : List ℕ). Contains l k) (take-append-drop i xs) h in
      let parts : Contains xs j → Contains (take i xs ++ drop i xs) j =
      λ h. subst (λ (l : List ℕ). Contains l j) (sym (take-append-drop i xs)) h in (
        λ h. ⊎_elim
            (λ a. inl (whole j (Contains-append_left (take i xs) (drop i xs) j a)))
            (λ b. ⊎_elim (λ c. inr c) (λ c. inl (whole j (Contains-append_right (take i xs) (drop i xs) j c)))
            (Contains-append_cases (x ∷ []) (drop i xs) j b))
            (Contains-append_cases (take i xs) (x ∷ drop i xs) j h),
        ⊎_elim
            (λ old. ⊎_elim
            (λ a. Contains-append_left (take i xs) (x ∷ drop i xs) j a)
            (λ b. Contains-append_right (take i xs) (x ∷ drop i xs) j (Contains-append_right (x ∷ []) (drop i xs) j b))
            (Contains-append_cases (take i xs) (drop i xs) j (parts old)))
            (λ new. Contains-append_right (take i xs) (x ∷ drop i xs) j (Contains-append_left (x ∷ []) (drop i xs) j new)),
      );
}

-- joined one after another
pub joined_on : (xs ys zs all more : List ℕ) → IsJoined xs ys all → IsJoined all zs more → IsJoined xs (ys ++ zs) more
joined_on xs ys zs all more h k = record {
  each = λ j. (
    λ there. ⊎_elim (λ old. ⊎_elim (λ a. inl a) (λ b. inr (Contains-append_left ys zs j b)) ((h.each j).0 old))
        (λ c. inr (Contains-append_right ys zs j c)) ((k.each j).0 there),
    ⊎_elim (λ a. (k.each j).1 (inl ((h.each j).1 (inl a))))
        (λ b. ⊎_elim (λ c. (k.each j).1 (inl ((h.each j).1 (inr c)))) (λ d. (k.each j).1 (inr d)) (Contains-append_cases ys zs j b)),
  );
}

pub joined_next : (xs ys all more : List ℕ) (i j d : ℕ) → j ≡ suc i → i < length ys → IsJoined xs (take i ys) all
    → IsJoined all (get_or ys i d ∷ []) more → IsJoined xs (take j ys) more
joined_next xs ys all more i j d is lt h k =
    subst (λ n. IsJoined xs (take n ys) more) (sym is)
    (subst (λ (l : List ℕ). IsJoined xs l more) (sym (take-suc ys i d lt)) (joined_on xs (take i ys) (get_or ys i d ∷ []) all more h k))

pub joined_with : (xs ys others all : List ℕ) → ys ≡ others → IsJoined xs ys all → IsJoined xs others all
joined_with xs ys others all is h = subst (λ (l : List ℕ). IsJoined xs l all) is h
