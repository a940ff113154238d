-- Frames that are cut, one after another.
use Rattle.dvg_c.proofs.Common.{◌≡◌, ℕ, ◌+◌, ◌<◌, List, [], ◌∷◌, ◌++◌, length, sum, take, drop, get_or, arith, common_steps, take-suc, take-append-drop, concat, of_each, of_each_append}
use Rattle.std.proofs.lemmas.List.Folds.{concat-append}
use Rattle.std.proofs.lemmas.List.Sums.{sum_by_more}

-- the frames so far and the rest are the bytes, and so are their lengths
pub record Cut (bytes lengths : List ℕ) (frames : List (List ℕ)) (rest : List ℕ) (i : ℕ) : Type 0 where
  pub joined : concat frames ++ rest ≡ bytes
  pub lengths_are : of_each length frames ≡ take i lengths
  pub total : sum (take i lengths) + length rest ≡ length bytes

-- the next frame is cut off the rest
pub cut_next : (bytes lengths : List ℕ) (frames : List (List ℕ)) (rest : List ℕ) (i n : ℕ) (frame behind : List ℕ) (more : List (List ℕ))
    → Cut bytes lengths frames rest i → i < length lengths → more ≡ frames ++ frame ∷ []
    → frame ≡ take n rest → behind ≡ drop n rest → length frame ≡ get_or lengths i 0 → length behind + get_or lengths i 0 ≡ length rest
    → Cut bytes lengths more behind (i + 1)
cut_next bytes lengths frames rest i n frame behind more h lt grown front back front_len back_len =
    let next : sum (take (i + 1) lengths) ≡ sum (take i lengths) + get_or lengths i 0 = sum_by_more (λ n. n) lengths i 0 lt in
    record {
      joined = grind (arith, common_steps, (concat-append frames (frame ∷ [])), (take-append-drop n rest), h.joined);
      lengths_are = grind (arith, common_steps, (of_each_append length frames (frame ∷ [])), (take-suc lengths i 0 lt), h.lengths_are);
      total = omega (arith, next, back_len, h.total);
    }
