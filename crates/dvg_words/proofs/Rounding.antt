-- Rounding half up by one multiplication: the size once more, in units of 1/2048, makes halves go away from 0.
use Rattle.dvg_words.proofs.Common.{◌≡◌, ℕ, ℤ, pos, negsuc, neg_ℤ, suc, ◌+◌, ◌*◌, ◌/◌, ◌^◌, ◌≤◌, ◌+ℤ◌, ◌*ℤ◌, arith, ints, rounded_move}
use Rattle.std.proofs.Common.{◌≤ℤ◌}
use Rattle.std.proofs.lemmas.Grind.{common_steps}
use Rattle.std.specs.Int.{int_div_euclid}
use Rattle.std.proofs.Math.Pow.{pow_mono}
use Rattle.std.proofs.Math.Nat.{mul-add, mul_left_comm, mul-le-mul}

spread : (n f : ℕ) → n * (2048 * f + 1) ≡ 2048 * (n * f) + n
spread n f = rw (mul-add n (2048 * f) 1, mul_left_comm n 2048 f) (omega arith)

below : (a m k : ℕ) → a ≡ 2048 * m + suc k → k ≤ 1022
    → int_div_euclid (neg_ℤ (pos a) +ℤ pos 1048576) (pos 2097152) *ℤ pos 1024 ≡ neg_ℤ (pos (1024 * ((m + 512) / 1024)))
below a m k e h = grind (arith, ints, e, h)

down : (m : ℕ) → rounded_move (neg_ℤ (pos m)) ≡ neg_ℤ (pos (1024 * ((m + 512) / 1024)))
down m = grind (arith)

-- a product of a size and a factor is no further from 0 than the greatest of them
product : (n f : ℕ) → n ≤ 1023 → f ≤ 1024 → n * f ≤ 1047552
product n f h k = mul-le-mul h k

-- a shift by at most nine places loses no bit
pub lossless : (t : ℕ) → t ≤ 9 → (2 ^ t ≤ 512) × (2 ^ (t + 1) ≡ 2 * 2 ^ t)
lossless t h = grind (arith, common_steps, pow_mono)

-- what is shown of a size and a factor
pub record Rounds (size : ℤ) (f : ℕ) : Type 0 where
  pub value : int_div_euclid (size *ℤ pos (2048 * f + 1) +ℤ pos 1048576) (pos 2097152) *ℤ pos 1024 ≡ rounded_move (size *ℤ pos f)
  pub low : neg_ℤ (pos (1023 * 1024)) ≤ℤ rounded_move (size *ℤ pos f)
  pub high : rounded_move (size *ℤ pos f) ≤ℤ pos (1023 * 1024)
  pub finer_low : negsuc 2147483647 ≤ℤ (size *ℤ pos (2048 * f + 1))
  pub finer_high : (size *ℤ pos (2048 * f + 1)) ≤ℤ pos 2147483648

rounds : (size : ℤ) (f : ℕ) → negsuc 1022 ≤ℤ size → size ≤ℤ pos 1023
    → int_div_euclid (size *ℤ pos (2048 * f + 1) +ℤ pos 1048576) (pos 2097152) *ℤ pos 1024 ≡ rounded_move (size *ℤ pos f)
rounds size f low high = grind (arith, pos, spread, negsuc, down, below)

pub rounds_at : (size : ℤ) (scale : ℕ) → negsuc 1022 ≤ℤ size → size ≤ℤ pos 1023 → scale ≤ 9 → Rounds size (2 ^ (scale + 1))
rounds_at size scale low high few =
    let less : 2 ^ (scale + 1) ≤ 1024 = omega (arith, lossless scale few) in
    let value = rounds size (2 ^ (scale + 1)) low high in
    grind (arith, pos, negsuc, product, spread)
