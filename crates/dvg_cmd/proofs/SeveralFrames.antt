-- What was read of several frames, one after another.
use Rattle.dvg_cmd.proofs.Common.{true, ◌≡◌, ℕ, suc, zero, ◌<◌, ◌≤◌, List, [], ◌∷◌, ◌++◌, length, take, get_or, Option, refl, sym, ap, ◌∙◌, subst, arith, take-suc, IsFrameLength, IsReadTo, of_each, AreFrames, IsPrefix, ArePrefixes, set, count_after, MOST_FRAME_READ, EachRead, EachHeld, FirstWrong, OneFailed}
use Rattle.dvg_cmd.proofs.Whole.{held_bytes, held_told, frame_same, frame_back}

pub of_each_append : {A B : Type 0} (f : A → B) (xs ys : List A) → of_each f (xs ++ ys) ≡ of_each f xs ++ of_each f ys
of_each_append f [] ys = refl
of_each_append f (x ∷ xs) ys = ap (λ l. f x ∷ l) (of_each_append f xs ys)

of_each_next : {A B : Type 0} (f : A → B) (xs : List A) (i : ℕ) (d : A) → i < length xs
    → of_each f (take (suc i) xs) ≡ of_each f (take i xs) ++ f (get_or xs i d) ∷ []
of_each_next f xs i d lt = ap (λ l. of_each f l) (take-suc xs i d lt) ∙ of_each_append f (take i xs) (get_or xs i d ∷ [])

module _ {A : Type 0} (remaining : A → Option (List ℕ)) (failures : A → ℕ) where
  -- so many readers were read, of which these are the first bytes; those behind them are as they were
  abbrev pub ReadSoFar : ℕ → List A → List A → List (List ℕ) → Type 0
  ReadSoFar zero olds news [] = news ≡ olds
  ReadSoFar (suc n) (o ∷ olds) (m ∷ news) (b ∷ read) =
      IsReadTo MOST_FRAME_READ (remaining o) (remaining m) × IsPrefix MOST_FRAME_READ (remaining o) b × (failures m ≡ failures o)
      × ReadSoFar n olds news read
  ReadSoFar n olds news read = ⊥

  pub more_read : (n : ℕ) (olds news : List A) (read : List (List ℕ)) (d y : A) (bytes : List ℕ) → n < length news
      → ReadSoFar n olds news read
      → IsReadTo MOST_FRAME_READ (remaining (get_or news n d)) (remaining y)
      → IsPrefix MOST_FRAME_READ (remaining (get_or news n d)) bytes → failures y ≡ failures (get_or news n d)
      → ReadSoFar (suc n) olds (set news n y) (read ++ bytes ∷ [])
  more_read zero olds (m ∷ news) [] d y bytes lt h one first same =
      subst (λ l. ReadSoFar 1 l (y ∷ news) (bytes ∷ [])) h (one, first, same, refl)
  more_read (suc n) (o ∷ olds) (m ∷ news) (b ∷ read) d y bytes lt h one first same =
      (h.0, h.1, h.2, more_read n olds news read d y bytes (omega (arith, lt)) h.3 one first same)
  more_read n olds news read d y bytes lt h one first same = grind (arith)

  pub one_failed : (n : ℕ) (olds news : List A) (read : List (List ℕ)) (d y : A) → n < length news → ReadSoFar n olds news read
      → failures y ≡ count_after true (failures (get_or news n d))
      → OneFailed (of_each failures olds) (of_each failures (set news n y))
  one_failed zero olds (m ∷ news) [] d y lt h failed =
      record {
        before = [];
        count = failures m;
        after = of_each failures news;
        old_is = ap (λ l. of_each failures l) (sym h);
        new_is =
            ap (λ k. k ∷ of_each failures news) failed;
      }
  one_failed (suc n) (o ∷ olds) (m ∷ news) (b ∷ read) d y lt h failed =
      let rest = one_failed n olds news read d y (omega (arith, lt)) h.3 failed in
      record {
        before = failures o ∷ rest.before;
        count = rest.count;
        after = rest.after;
        old_is = ap (λ l. failures o ∷ l) rest.old_is;
        new_is = ap (λ k. k ∷ of_each failures (set news n y)) h.2 ∙ ap (λ l. failures o ∷ l) rest.new_is;
      }
  one_failed n olds news read d y lt h failed = grind (arith)

  pub none_failed : (n : ℕ) (olds news : List A) (read : List (List ℕ)) → ReadSoFar n olds news read
      → of_each failures news ≡ of_each failures olds
  none_failed zero olds news [] h = ap (λ l. of_each failures l) h
  none_failed (suc n) (o ∷ olds) (m ∷ news) (b ∷ read) h = grind (arith, of_each, (none_failed n olds news read h.3))
  none_failed n olds news read h = grind (arith)

  pub all_read : (n : ℕ) (olds news : List A) (read : List (List ℕ)) → length news ≤ n → ReadSoFar n olds news read
      → EachRead (of_each remaining olds) (of_each remaining news) × ArePrefixes (of_each remaining olds) read
  all_read zero olds [] [] le h = subst (λ l. EachRead (of_each remaining l) [] × ArePrefixes (of_each remaining l) []) h (tt, tt)
  all_read (suc n) (o ∷ olds) (m ∷ news) (b ∷ read) le h =
      let rest = all_read n olds news read (omega (arith, le)) h.3 in ((h.0, rest.0), (h.1, rest.1))
  all_read n olds news read le h = grind (arith)

-- ---- what all readers held

abbrev pub held_each : List (Option (List ℕ)) → List (List ℕ) → List (List ℕ)
held_each [] bytes = []
held_each (r ∷ readers) [] = []
held_each (r ∷ readers) (b ∷ bytes) = held_bytes r b ∷ held_each readers bytes

pub each_held : (readers : List (Option (List ℕ))) (read : List (List ℕ)) → ArePrefixes readers read
    → EachHeld readers (held_each readers read)
each_held (r ∷ readers) (b ∷ read) h = (held_told r b, each_held readers read h.1)
each_held readers read h = grind (arith)

pub each_same : (readers : List (Option (List ℕ))) (read : List (List ℕ)) → ArePrefixes readers read → AreFrames read
    → read ≡ held_each readers read
each_same (r ∷ readers) (b ∷ read) h frames = grind (arith, (frame_same r b h.0 frames.0), (each_same readers read h.1 frames.1))
each_same readers read h frames = grind (arith)

pub first_wrong : (readers : List (Option (List ℕ))) (read : List (List ℕ)) (n : ℕ) → ArePrefixes readers read → FirstWrong read n
    → FirstWrong (held_each readers read) n
first_wrong (r ∷ readers) (b ∷ read) zero h wrong = λ long. wrong (frame_back r b h.0 long)
first_wrong (r ∷ readers) (b ∷ read) (suc n) h wrong = grind (arith, (frame_same r b h.0 wrong.0), (first_wrong readers read n h.1 wrong.1))
first_wrong readers read n h wrong = grind (arith)

-- ---- the lengths of what was read

frames_on : (read : List (List ℕ)) (bytes : List ℕ) → AreFrames read → IsFrameLength (length bytes) → AreFrames (read ++ bytes ∷ [])
frames_on [] bytes h one = (one, tt)
frames_on (b ∷ read) bytes h one = (h.0, frames_on read bytes h.1 one)

pub wrong_here : {A : Type 0} (bytes_of : A → List ℕ) (read : List A) (i : ℕ) (d : A) → i < length read
    → AreFrames (of_each bytes_of (take i read)) → (bytes : List ℕ) → bytes ≡ bytes_of (get_or read i d)
    → (IsFrameLength (length bytes) → ⊥) → FirstWrong (of_each bytes_of read) i
wrong_here bytes_of [] i d lt h bytes is wrong = absurd (omega (arith, lt))
wrong_here bytes_of (r ∷ read) zero d lt h bytes is wrong = subst (λ b. IsFrameLength (length b) → ⊥) is wrong
wrong_here bytes_of (r ∷ read) (suc i) d lt h bytes is wrong = (h.0, wrong_here bytes_of read i d (omega (arith, lt)) h.1 bytes is wrong)

module _ {A : Type 0} (bytes_of : A → List ℕ) (read : List A) (i : ℕ) (d : A) (lt : i < length read) where
  pub frames_next : (j : ℕ) → j ≡ suc i → AreFrames (of_each bytes_of (take i read)) → (bytes : List ℕ)
      → bytes ≡ bytes_of (get_or read i d) → IsFrameLength (length bytes) → AreFrames (of_each bytes_of (take j read))
  frames_next j next h bytes is one =
      grind (arith, of_each, (of_each_next bytes_of read i d lt), frames_on, (of_each bytes_of (take i read)))

  pub words_next : {B : Type 0} (words : List ℕ → B) (images : List B) (j : ℕ) → j ≡ suc i
      → images ≡ of_each words (of_each bytes_of (take i read)) → (bytes : List ℕ) → bytes ≡ bytes_of (get_or read i d)
      → images ++ words bytes ∷ [] ≡ of_each words (of_each bytes_of (take j read))
  words_next words images j next h bytes is =
      grind (
        arith,
        (of_each words (of_each bytes_of (take i read))),
        (of_each bytes_of (take i read)),
        of_each,
        (of_each_next bytes_of read i d lt),
        (of_each_append words (of_each bytes_of (take i read)) (bytes_of (get_or read i d) ∷ [])),
      )
