-- The most at each scale.
use Rattle.dvg_recipe.proofs.Common.{◌≡◌, ◌<◌, ◌≤◌, ℕ, suc, List, length, get_or, subst, ⊎_elim, arith, cases_lt, Option, None, Some}
use Rattle.std.proofs.Math.ListN.{get_or-eq_default}
use Rattle.dvg_clocks.specs.declared.clocks.ClockRange.{ClockRange}
use Rattle.dvg_recipe.specs.Private.Clocks.{IsUnder, joined_clocks}

pub joined_old : (old : Option ClockRange) (more n : ClockRange) → IsUnder n old → IsUnder n (Some (joined_clocks old more))
joined_old None more n h = absurd h
joined_old (Some old) more n h = (omega (arith, h.0), omega (arith, h.1))

pub joined_more : (old : Option ClockRange) (more n : ClockRange) → IsUnder n (Some more) → IsUnder n (Some (joined_clocks old more))
joined_more None more n h = h
joined_more (Some old) more n h = (omega (arith, h.0), omega (arith, h.1))

-- what is so of the scales below a number is so of one more
pub next_scale : (F : ℕ → Type 0) (n m : ℕ) → m ≡ suc n → F n → ((s : ℕ) → s < n → F s) → (s : ℕ) → s < m → F s
next_scale F n m is new h s lt = ⊎_elim (h s) (λ last. let same : n ≡ s = omega (arith, is, lt, last) in subst F same new) (cases_lt s n)

-- a scale at which there is a most is below the number of scales
pub scale_below : (at : List (Option ClockRange)) (m s : ℕ) (n : ClockRange) → length at ≤ m → IsUnder n (get_or at s None) → s < m
scale_below at m s n few under =
    ⊎_elim (λ less. less) (λ past. absurd (subst (IsUnder n) (get_or-eq_default at None (omega (arith, few, past))) under)) (cases_lt s m)
