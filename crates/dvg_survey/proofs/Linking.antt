-- The names of links, and one link more.
use Rattle.dvg_survey.proofs.Common.{◌≡◌, ℕ, zero, suc, ◌+◌, refl, sym, ◌<◌, Bool, true, false, List, [], ◌∷◌, ◌++◌, take, get_or, get_or-set_same, length, Option, Some, is_some, ap, ◌∙◌, arith, ◌⊎◌, inl, inr, ⊎_elim, slice_get, IsKey, Key, entry_at, Call, word_number, with_word, Link, entries_of, reach, reach_all, ◌||◌, AreNames, name_of, AreNone}
use Rattle.std.proofs.lemmas.List.{take_more}
use Rattle.dvg_cert.proofs.OnlyEntries.{at_holds, at_means}
use Rattle.dvg_survey.proofs.Marks.{others_among, here_or_other}

-- with more links an entry is there where it was, or where one of these has it
pub there_append : (links more : List Link) (addr : ℕ) (key : Key)
    → is_some (entry_at (entries_of (links ++ more)) addr key)
    ≡ (is_some (entry_at (entries_of links) addr key) || is_some (entry_at (entries_of more) addr key))
there_append [] more addr key = refl
there_append (x ∷ links) more addr key = grind (arith, (there_append links more addr key), is_some, entry_at, entries_of)

-- the names of one link more
pub names_push : (names : List Bool) (links : List Link) (l : Link) → IsKey l.call.entry.key
    → word_number (name_of l.call.entry) < length names → AreNames names links
    → AreNames (with_word names (name_of l.call.entry)) (links ++ l ∷ [])
names_push names links l own lt h place k =
    ⊎_elim
    (λ same. grind (
      arith,
      (there_append links (l ∷ []) place.0 place.1),
      (at_holds place.0 place.1 l.call.entry),
      (get_or-set_same names (word_number (name_of l.call.entry)) true false lt),
      same,
    ))
    (λ other. grind (
      arith,
      (there_append links (l ∷ []) place.0 place.1),
      (at_means place.0 place.1 l.call.entry),
      (others_among names (name_of l.call.entry) place other),
      (h place k),
      other,
    ))
    (here_or_other names (name_of l.call.entry) own place k)

-- of no links, there are none
pub no_names : (names : List Bool) (links : List Link) → AreNone names → links ≡ [] → AreNames names links
no_names names links none is place k = grind (arith, (none place), entry_at, entries_of, is_some)

-- ---- calls, one more

reach_push : (links : List Link) (from : Option ℕ) (calls : List Call) (call : Call)
    → reach_all links from (calls ++ call ∷ []) ≡ reach (reach_all links from calls) (record { call = call; from = from })
reach_push links from [] call = refl
reach_push links from (x ∷ calls) call = reach_push (reach links (record { call = x; from = from })) from calls call

pub reach_more : (links : List Link) (from : Option ℕ) (calls : List Call) (k : ℕ) (d : Call) (old new : List Link) → k < length calls
    → old ≡ reach_all links from (take k calls)
    → new ≡ reach old (record { call = get_or calls k d; from = from }) → new ≡ reach_all links from (take (k + 1) calls)
reach_more links from calls k d old new lt h e =
    e ∙ ap (λ ls. reach ls (record { call = get_or calls k d; from = from })) h
    ∙ sym (ap (reach_all links from) (take_more calls k d lt) ∙ reach_push links from (take k calls) (get_or calls k d))

-- what holds of the links where they have the entry, and of them with one more where they don't, holds of those reached
pub reach_keeps : (P : List Link → Type 0) (links : List Link) (l : Link)
    → (is_some (entry_at (entries_of links) l.call.entry.addr l.call.entry.key) ≡ true → P links)
    → (is_some (entry_at (entries_of links) l.call.entry.addr l.call.entry.key) ≡ false → P (links ++ l ∷ [])) → P (reach links l)
reach_keeps P links l h k = grind (arith, is_some, entry_at, entries_of)

-- ---- what stands at an index

pub at_or_new : {A : Type 0} (xs : List A) (x : A) (k : ℕ) (y : A) → slice_get (xs ++ x ∷ []) k ≡ Some y → (slice_get xs k ≡ Some y)
    ⊎ ((k ≡ length xs) × (y ≡ x))
at_or_new [] x k y e = grind (arith)
at_or_new (z ∷ xs) x zero y e = inl e
at_or_new (z ∷ xs) x (suc k) y e = ⊎_elim (λ h. inl h) (λ h. inr (ap suc h.0, h.1)) (at_or_new xs x k y e)

pub at_still : {A : Type 0} (xs ys : List A) (k : ℕ) (y : A) → slice_get xs k ≡ Some y → slice_get (xs ++ ys) k ≡ Some y
at_still [] ys k y e = cc e
at_still (z ∷ xs) ys zero y e = e
at_still (z ∷ xs) ys (suc k) y e = at_still xs ys k y e
