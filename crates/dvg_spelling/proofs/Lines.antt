-- The numbers of a line, over plain values.
use Rattle.dvg_spelling.proofs.Common.{◌≡◌, ℕ, List, [], ◌++◌, arith, common_steps, codes, w64, to_z-of_z}

-- four numbers, with this between two of them
pub four_numbers : (o a b c d between r s t u : List ℕ) → r ≡ o ++ [] ++ a → s ≡ r ++ between ++ b → t ≡ s ++ between ++ c
    → u ≡ t ++ between ++ d
    → u ≡ o ++ (a ++ between ++ b ++ between ++ c ++ between ++ d)
four_numbers o a b c d between r s t u is is-2 is-3 is-4 = grind (arith, common_steps)

pub ruleset numbers = (w64, four_numbers, codes, to_z-of_z)
