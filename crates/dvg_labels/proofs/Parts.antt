-- How lists are cut at the first element that passes a test.
use Rattle.std.proofs.lemmas.List.Splits.{slice_split_first}
use Rattle.std.proofs.lemmas.List.Folds.{length-prefix_len}
use Rattle.std.specs.Prelude.{position}
use Rattle.std.specs.Option.{unwrap_or}
use Rattle.dvg_labels.proofs.Common.{◌≡◌, ℕ, suc, ◌+◌, ◌<◌, Bool, true, false, not, cond, List, [], ◌∷◌, length, take, drop, refl, ap, sym, arith, rules, common_steps, Some, None, one-add, slice_split, position_or_len, onto_first, filter, words, is_blank, has_bytes, first_of}

-- the parts behind the first one, by what is left behind it
abbrev pub parts_behind : {X : Type 0} → (X → Bool) → List X → List (List X)
parts_behind p [] = []
parts_behind p (x ∷ xs) = slice_split p xs

by_first : {X : Type 0} (p : X → Bool) (x : X) (xs : List X) (b : Bool) (n : ℕ) → slice_split p xs ≡ take n xs ∷ parts_behind p (drop n xs)
    → cond b ([] ∷ slice_split p xs) (onto_first x (slice_split p xs))
    ≡ take (cond (not b) (1 + n) 0) (x ∷ xs) ∷ parts_behind p (drop (cond (not b) (1 + n) 0) (x ∷ xs))
by_first p x xs b n h = grind (arith)

-- the first part ends at the first element that passes
pub cut_first : {X : Type 0} (p : X → Bool) (xs : List X)
    → slice_split p xs ≡ take (position_or_len p xs) xs ∷ parts_behind p (drop (position_or_len p xs) xs)
cut_first p [] = refl
cut_first p (x ∷ xs) = by_first p x xs (p x) (position_or_len p xs) (cut_first p xs)

-- behind a first part that ends before the list does come the parts of what stands behind its end
pub cut_at : {X : Type 0} (p : X → Bool) (n : ℕ) (xs : List X) → n ≡ position_or_len p xs → n < length xs
    → slice_split p xs ≡ take n xs ∷ slice_split p (drop (n + 1) xs)
cut_at p n [] is lt = absurd (omega arith)
cut_at p n (x ∷ xs) is lt = grind (arith, (slice_split_first p (x ∷ xs) x))

pub cut_in : {X : Type 0} (p : X → Bool) (n : ℕ) (xs : List X) → position p xs ≡ Some n
    → (n < length xs) × (slice_split p xs ≡ take n xs ∷ slice_split p (drop (n + 1) xs))
cut_in p n xs is = grind (arith, rules, cut_at)

-- a list in which none passes is one part
pub uncut : {X : Type 0} (p : X → Bool) (xs : List X) → position p xs ≡ None → slice_split p xs ≡ xs ∷ []
uncut p xs is = grind (arith, rules, common_steps, (cut_first p xs), (length-prefix_len (λ x. not (p x)) xs))

-- blanks before a word are passed over
skip_step : (x : ℕ) (xs : List ℕ) (b : Bool) (n : ℕ) → words (drop n xs) ≡ words xs → is_blank x ≡ b
    → words (drop (cond (not (not b)) (1 + n) 0) (x ∷ xs)) ≡ words (x ∷ xs)
skip_step x xs b n h is = grind (arith)

pub skipped : (xs : List ℕ) → words (drop (position_or_len (λ b. not (is_blank b)) xs) xs) ≡ words xs
skipped [] = refl
skipped (x ∷ xs) = skip_step x xs (is_blank x) (position_or_len (λ b. not (is_blank b)) xs) (skipped xs) refl

-- a list is empty, or its first element passes
abbrev pub Passing : {X : Type 0} → (X → Bool) → List X → Type 0
Passing p [] = Unit {0}
Passing p (x ∷ xs) = p x ≡ true

passing_step : {X : Type 0} (p : X → Bool) (x : X) (xs : List X) (b : Bool) (n : ℕ) → Passing p (drop n xs) → p x ≡ b
    → Passing p (drop (cond (not b) (1 + n) 0) (x ∷ xs))
passing_step p x xs b n h is = grind (arith)

pub first_passes : {X : Type 0} (p : X → Bool) (xs : List X) → Passing p (drop (position_or_len p xs) xs)
first_passes p [] = tt
first_passes p (x ∷ xs) = passing_step p x xs (p x) (position_or_len p xs) (first_passes p xs) refl

-- behind a word come its line's further words
words_behind : (ys : List ℕ) → Passing is_blank ys → filter has_bytes (parts_behind is_blank ys) ≡ words ys
words_behind ys h = grind (arith)

abbrev pub IsCut : List ℕ → ℕ → Type 0
IsCut ys n = (take n ys ≡ first_of (words ys)) × (words (drop n ys) ≡ drop 1 (words ys))

word_step : (x : ℕ) (xs : List ℕ) (n : ℕ) → words (x ∷ xs) ≡ (x ∷ take n xs) ∷ words (drop n xs) → IsCut (x ∷ xs) (suc n)
word_step x xs n h = (sym (ap first_of h), sym (ap (λ l. drop 1 l) h))

visible_step : (x : ℕ) (xs : List ℕ) (b : Bool) → is_blank x ≡ b → not b ≡ true
    → IsCut (x ∷ xs) (cond (not b) (1 + position_or_len is_blank xs) 0)
visible_step x xs true is h = absurd (grind (arith, h))
visible_step x xs false is h = grind (arith, one-add, word_step, cond, cut_first, words_behind, first_passes)

pub word_cut : (ys : List ℕ) → Passing (λ b. not (is_blank b)) ys → IsCut ys (position_or_len is_blank ys)
word_cut [] h = (refl, refl)
word_cut (x ∷ xs) h = visible_step x xs (is_blank x) refl h

-- where the first element that passes stands, or the length
ended : {X : Type 0} (p : X → Bool) (xs : List X) → unwrap_or (position p xs) (length xs) ≡ position_or_len p xs
ended p xs = grind (arith, rules, common_steps, (length-prefix_len (λ x. not (p x)) xs))

-- blanks and a word taken off a line
pub word_off : (xs rest : List ℕ) (m n : ℕ) → rest ≡ drop m xs → m ≡ unwrap_or (position (λ b. not (is_blank b)) xs) (length xs)
    → n ≡ unwrap_or (position is_blank rest) (length rest)
    → (take n rest ≡ first_of (words xs)) × (words (drop n rest) ≡ drop 1 (words xs))
word_off xs rest m n rest_is m_is n_is =
    grind (
      arith,
      (first_passes (λ b. not (is_blank b)) xs),
      (skipped xs),
      (word_cut rest),
      (ended (λ b. not (is_blank b)) xs),
      (ended is_blank rest),
    )
