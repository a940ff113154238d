-- KeyedWords and their numbers, and sets of them.
use Rattle.dvg_survey.proofs.Common.{◌≡◌, ◌≢◌, ℕ, zero, suc, List, Bool, true, false, get_or, refl, sym, ◌∙◌, arith, ◌⊎◌, inl, inr, ⊎_elim, cases_lt, IsKey, KeyedWord, word_number, is_marked, with_word, HasWord, replicate, get_or-set_other}

-- at first there is none
pub false_at : (n k : ℕ) → get_or (replicate n false) k false ≡ false
false_at zero k = refl
false_at (suc n) zero = refl
false_at (suc n) (suc k) = false_at n k

module _ (marks : List Bool) (here : KeyedWord) where
  pub others_among : (place : KeyedWord) → word_number place ≢ word_number here
      → is_marked (with_word marks here) place ≡ is_marked marks place
  others_among place ne = get_or-set_other marks (word_number here) (word_number place) true false ne

  -- a place is this one, or has another number
  pub here_or_other : IsKey here.1 → (place : KeyedWord) → IsKey place.1 → (place ≡ here) ⊎ (word_number place ≢ word_number here)
  here_or_other key place h = grind (arith, cases_lt, word_number)

  -- what is among them with one more was among them, or is that one
  pub there_or_here : IsKey here.1 → (place : KeyedWord) → HasWord (with_word marks here) place → HasWord marks place ⊎ (place ≡ here)
  there_or_here key place h = ⊎_elim (λ same. inr same) (λ ne. inl (h.0, sym (others_among place ne) ∙ h.1)) (here_or_other key place h.0)
