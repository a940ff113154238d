-- The words of a list of bytes, by their places.
use Rattle.dvg_words.proofs.Common.{◌≡◌, ℕ, ◌+◌, ◌*◌, ◌/◌, ◌≤◌, zero, suc, List, [], ◌∷◌, length, get_or, slice_get, Some, refl, arith, words_of, IsFrame, IsFrameLength}

-- two bytes to a word
pub words_of_len : (bs : List ℕ) → length (words_of bs) ≡ length bs / 2
words_of_len [] = refl
words_of_len (low ∷ []) = refl
words_of_len (low ∷ high ∷ bs) = omega (arith, words_of_len bs)

-- the word at a place is made of its two bytes
pub word_at_place : (bs : List ℕ) (i : ℕ) → 2 * i + 2 ≤ length bs
    → slice_get (words_of bs) i ≡ Some (get_or bs (2 * i) 0 + 256 * get_or bs (2 * i + 1) 0)
word_at_place [] i h = absurd (omega arith)
word_at_place (low ∷ []) i h = absurd (omega arith)
word_at_place (low ∷ high ∷ bs) zero h = refl
word_at_place (low ∷ high ∷ bs) (suc i) h = grind (arith, (word_at_place bs i (omega arith)))

-- 2 to 2048 bytes, an even number of them, are a frame
pub words_of_is_frame : (bytes : List ℕ) → IsFrameLength (length bytes) → IsFrame (words_of bytes)
words_of_is_frame bytes long = grind (arith, words_of_len)
