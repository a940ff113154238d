-- How many were refused by each number, one after another.
use Rattle.dvg_spelling.proofs.Common.{◌≡◌, ℕ, ◌+◌, ◌<◌, List, [], ◌∷◌, ◌++◌, length, take, get_or, refl, ap, ◌∙◌, arith, refused_text, refused_texts, append_assoc, append-nil, length-take, take_more}

refused_then : (number : ℕ) (counts : List ℕ) (count : ℕ)
    → refused_texts number (counts ++ count ∷ []) ≡ refused_texts number counts ++ refused_text (number + length counts) count
refused_then number [] count = append-nil (refused_text number count) ∙ ap (λ (n : ℕ). refused_text n count) (omega arith)
refused_then number (first ∷ counts) count = grind (arith, (refused_then (number + 1) counts count), append_assoc)

-- with the count of the next number it is that of one more
pub refused_next : (counts : List ℕ) (i d : ℕ) → i < length counts → (get_or counts i d ≡ get_or counts i d)
    × (refused_texts 0 (take (i + 1) counts) ≡ refused_texts 0 (take i counts) ++ refused_text i (get_or counts i d))
refused_next counts i d lt =
    (refl, grind (arith, (take_more counts i d lt), (refused_then 0 (take i counts) (get_or counts i d)), length-take))
