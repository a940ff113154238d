-- What holds of each number below one.
use Rattle.std.proofs.Common.{arith, ℕ, Bool, true, false, ◌≡◌, ◌<◌, ◌+◌, zero, suc}
use Rattle.dvg_dumps.specs.Front.{all_below, any_below}

-- where it doesn't hold of one, it doesn't hold of all
pub one_false : (p : ℕ → Bool) (n k : ℕ) → k < n → p k ≡ false → all_below p n ≡ false
one_false p zero k below not = grind arith
one_false p (suc n) k below not = grind (arith, (one_false p n k))

-- where it holds of those below one, and of this one, it holds of those below the next
pub one_more : (p : ℕ → Bool) (n : ℕ) → all_below p n ≡ true → p n ≡ true → all_below p (n + 1) ≡ true
one_more p n below here = grind arith

-- where it holds of one, it holds of any
pub one_true : (p : ℕ → Bool) (n k : ℕ) → k < n → p k ≡ true → any_below p n ≡ true
one_true p zero k below here = grind arith
one_true p (suc n) k below here = grind (arith, (one_true p n k))
