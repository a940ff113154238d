-- The entries of a list whose positions are marked.
use Rattle.std.specs.Prelude.{◌≡◌, ℕ, zero, suc, ◌+◌, ◌<◌, ◌≤◌, List, [], ◌∷◌, ◌++◌, length, take, Some, None, Bool, true, false, Contains, get_or, slice_get, refl}
use Rattle.std.proofs.Common.{sym, ap, subst}
use Rattle.std.specs.List.{AllByRecursion}
use Rattle.std.proofs.lemmas.Option.{slice_get_within, get_or_from_slice_get, slice_get_read}
use Rattle.dvg_make.proofs.Common.{arith, IsRising, Before, Entry, before_later, rising_tail}
use Rattle.dvg_kept.specs.Private.Marks.{picked, trues}

-- what stands at a position is contained, and the other way round
pub contains_at : {A : Type 0} (xs : List A) (q : ℕ) (x : A) → slice_get xs q ≡ Some x → Contains xs x
contains_at xs q x h = (q, slice_get_within xs q x h, get_or_from_slice_get xs q x x h)

pub at_contains : {A : Type 0} (xs : List A) (x : A) → Contains xs x → (q : ℕ) × (slice_get xs q ≡ Some x)
at_contains xs x c = (c.0, slice_get_read xs (length xs) c.0 x refl c.1 (sym c.2))

pub none_there : {A : Type 0} (q : ℕ) (x : A) → slice_get [] q ≡ Some x → ⊥
none_there q x h = let lt = slice_get_within [] q x h in omega (arith, lt)

pub picked_at : (ms : List Bool) (es : List Entry) (p : ℕ) (e : Entry) → slice_get (picked ms es) p ≡ Some e → (q : ℕ)
    × (slice_get ms q ≡ Some true) × (slice_get es q ≡ Some e)
picked_at (true ∷ ms) (x ∷ es) zero e h = (zero, refl, h)
picked_at (true ∷ ms) (x ∷ es) (suc p) e h = let r = picked_at ms es p e h in (suc r.0, r.1, r.2)
picked_at (false ∷ ms) (x ∷ es) p e h = let r = picked_at ms es p e h in (suc r.0, r.1, r.2)
picked_at [] es p e h = absurd (none_there p e h)
picked_at (b ∷ ms) [] p e h = absurd (none_there p e h)

pub at_picked : (ms : List Bool) (es : List Entry) (q : ℕ) (e : Entry) → slice_get ms q ≡ Some true → slice_get es q ≡ Some e → (p : ℕ)
    × (slice_get (picked ms es) p ≡ Some e)
at_picked (true ∷ ms) (x ∷ es) zero e m h = (zero, h)
at_picked (false ∷ ms) (x ∷ es) zero e m h = absurd (cc m)
at_picked (true ∷ ms) (x ∷ es) (suc q) e m h = let r = at_picked ms es q e m h in (suc r.0, r.1)
at_picked (false ∷ ms) (x ∷ es) (suc q) e m h = at_picked ms es q e m h
at_picked [] es q e m h = absurd (none_there q true m)
at_picked (b ∷ ms) [] q e m h = absurd (none_there q e h)

pub picked_len : (ms : List Bool) (es : List Entry) → length ms ≡ length es → length (picked ms es) ≡ trues ms
picked_len [] es h = refl
picked_len (true ∷ ms) (x ∷ es) h = ap suc (picked_len ms es (omega (arith, h)))
picked_len (false ∷ ms) (x ∷ es) h = picked_len ms es (omega (arith, h))
picked_len (b ∷ ms) [] h = absurd (omega (arith, h))

pub picked_each : (P : Entry → Type 0) (ms : List Bool) (es : List Entry) → AllByRecursion P es → AllByRecursion P (picked ms es)
picked_each P [] es h = tt
picked_each P (true ∷ ms) (x ∷ es) h = (h.0, picked_each P ms es h.1)
picked_each P (false ∷ ms) (x ∷ es) h = picked_each P ms es h.1
picked_each P (b ∷ ms) [] h = tt

rising_on : (x : Entry) (l : List Entry) → ((e : Entry) → Contains l e → Before x e) → IsRising l → IsRising (x ∷ l)
rising_on x [] h rises = tt
rising_on x (y ∷ l) h rises = (h y (zero, omega arith, refl), rises)

pub picked_rising : (ms : List Bool) (es : List Entry) → IsRising es → IsRising (picked ms es)
picked_rising [] es h = tt
picked_rising (true ∷ ms) (x ∷ es) h =
    rising_on x (picked ms es) (λ e c.
    let p = at_contains (picked ms es) e c in
    let q = picked_at ms es p.0 e p.1 in
    before_later x es e h (contains_at es q.0 e q.2)) (picked_rising ms es (rising_tail x es h))
picked_rising (false ∷ ms) (x ∷ es) h = picked_rising ms es (rising_tail x es h)
picked_rising (b ∷ ms) [] h = tt

pub picked_few : (ms : List Bool) (es : List Entry) → length (picked ms es) ≤ length es
picked_few [] es = omega arith
picked_few (b ∷ ms) [] = omega arith
picked_few (true ∷ ms) (x ∷ es) = omega (arith, picked_few ms es)
picked_few (false ∷ ms) (x ∷ es) = omega (arith, picked_few ms es)

pub read_at : (ms : List Bool) (i : ℕ) (b d : Bool) → i < length ms → get_or ms i d ≡ b → slice_get ms i ≡ Some b
read_at [] i b d lt h = absurd (omega (arith, lt))
read_at (x ∷ ms) zero b d lt h = ap Some h
read_at (x ∷ ms) (suc i) b d lt h = read_at ms i b d (omega (arith, lt)) h

-- one more position: its entry is picked where it is marked
more : (ms : List Bool) (es : List Entry) (i : ℕ) (e : Entry) → slice_get ms i ≡ Some true → slice_get es i ≡ Some e
    → picked (take (suc i) ms) es ≡ picked (take i ms) es ++ e ∷ []
more [] es i e m h = absurd (none_there i true m)
more (b ∷ ms) [] i e m h = absurd (none_there i e h)
more (true ∷ ms) (x ∷ es) zero e m h = cc
more (false ∷ ms) (x ∷ es) zero e m h = absurd (cc m)
more (true ∷ ms) (x ∷ es) (suc i) e m h = ap (λ (l : List Entry). x ∷ l) (more ms es i e m h)
more (false ∷ ms) (x ∷ es) (suc i) e m h = more ms es i e m h

-- and nothing more, where it is not, or no entry stands there
same : (ms : List Bool) (es : List Entry) (i : ℕ) (b : Bool) → slice_get ms i ≡ Some b → (b ≡ true → slice_get es i ≡ None)
    → picked (take (suc i) ms) es ≡ picked (take i ms) es
same [] es i b m h = absurd (none_there i b m)
same (true ∷ ms) [] zero b m h = refl
same (false ∷ ms) [] zero b m h = refl
same (true ∷ ms) [] (suc i) b m h = refl
same (false ∷ ms) [] (suc i) b m h = refl
same (true ∷ ms) (x ∷ es) zero b m h = absurd (cc (h (cc m)))
same (false ∷ ms) (x ∷ es) zero b m h = refl
same (true ∷ ms) (x ∷ es) (suc i) b m h = ap (λ (l : List Entry). x ∷ l) (same ms es i b m h)
same (false ∷ ms) (x ∷ es) (suc i) b m h = same ms es i b m h

pub picked_more : (ms : List Bool) (es : List Entry) (i : ℕ) (e : Entry) → slice_get ms i ≡ Some true → slice_get es i ≡ Some e
    → picked (take (i + 1) ms) es ≡ picked (take i ms) es ++ e ∷ []
picked_more ms es i e m h = let next : suc i ≡ i + 1 = omega arith in
    subst (λ n. picked (take n ms) es ≡ picked (take i ms) es ++ e ∷ []) next (more ms es i e m h)

pub picked_same : (ms : List Bool) (es : List Entry) (i : ℕ) (b : Bool) → slice_get ms i ≡ Some b → (b ≡ true → slice_get es i ≡ None)
    → picked (take (i + 1) ms) es ≡ picked (take i ms) es
picked_same ms es i b m h = let next : suc i ≡ i + 1 = omega arith in
    subst (λ n. picked (take n ms) es ≡ picked (take i ms) es) next (same ms es i b m h)
