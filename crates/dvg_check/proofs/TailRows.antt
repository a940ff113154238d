-- What is kept by a pass, and the entries that it shows to be good.
use Rattle.dvg_check.proofs.Common.{arith, length-replicate, List, Option, None, ◌∷◌, ◌⊎◌, suc, length, take, get_or, sym, subst, ◌≡◌, ◌<◌, ◌≤◌, ℕ, ⊎_elim, AllByRecursion, Entry, Key, replicate, get_or_default, IsClaim, IsSomeCertificate, listed_claim, AllKept, IsKept, Kept, get_or-replicate, get_or_past}

-- nothing is kept
pub none_kept : {T : Type 0} (P : ℕ → Key → T → Type 0) (n : ℕ) → AllKept P (replicate n None)
none_kept P n kept h = grind (arith, get_or-replicate, get_or_past, length-replicate)

-- one more is kept
pub one_more_kept : {T : Type 0} (P : ℕ → Key → T → Type 0) (old new : List (Option (Kept T))) (one : Kept T)
    → ((kept : Kept T) → IsKept new kept → (kept ≡ one) ⊎ IsKept old kept) → AllKept P old → P one.addr one.key one.value → AllKept P new
one_more_kept {T} P old new one more all is kept h =
    ⊎_elim (λ same. subst (λ (k : Kept T). P k.addr k.key k.value) (sym same) is) (all kept) (more kept h)

-- an entry of a certificate's list claims what is within the limits
pub claim_at : (l : List Entry) (k : ℕ) (d : Entry) → IsSomeCertificate l → k < length l → IsClaim (get_or l k d)
claim_at l k d c lt = listed_claim l (get_or l k d) c (k, lt, get_or_default l k (get_or l k d) d lt)

-- what holds of each of the first entries
pub all_take : (P : Entry → Type 0) (l : List Entry) (n : ℕ) → n ≤ length l → ((k : ℕ) (past : Entry) → k < n → P (get_or l k past))
    → AllByRecursion P (take n l)
all_take P (x ∷ l) (suc n) le h =
    (h 0 x (omega arith), all_take P l n (omega (arith, le)) (λ k past lt. h (suc k) past (omega (arith, lt))))
all_take P l n le h = grind (arith)
