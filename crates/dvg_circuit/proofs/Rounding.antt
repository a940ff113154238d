-- How many pulses a multiplier lets through.
use Rattle.dvg_circuit.proofs.Common.{◌/◌, ◌-◌, nat_lt, refl, ◌==◌, if◌then◌else◌, ending_ones, ◌≡◌, ℕ, zero, suc, ◌+◌, ◌*◌, ◌%◌, ◌^◌, ◌<◌, ◌≤◌, ap, arith, pow-succ', cases_eq, nat_tests, rules, pow-suc, mod-eq_of_lt, bit, pulses, RoundedHalfUp}
use Rattle.std.proofs.lemmas.Grind.{common_steps}
use Rattle.std.proofs.Math.Pow.{pow_mono}
use Rattle.std.proofs.lemmas.Nat.{mod-pow-add, pow_pos}

-- ---- a multiplier by recursion on the bits of a size

-- at an even count the top bit, and at an odd count the multiplier of the bits below it, at half the count
abbrev pub multiplier : ℕ → ℕ → ℕ → ℕ
multiplier zero size count = 0
multiplier (suc bits) size count = if count % 2 == 0 then bit bits size else multiplier bits size (count / 2)

abbrev pulses_of : ℕ → ℕ → ℕ → ℕ
pulses_of bits size zero = 0
pulses_of bits size (suc n) = pulses_of bits size n + multiplier bits size n

-- a pulse goes by how many ones the count ends in
pub gated : (bits size count : ℕ)
    → multiplier bits size count ≡ (if nat_lt (ending_ones bits count) bits then bit (bits - suc (ending_ones bits count)) size else 0)
gated zero size count = refl
gated (suc bits) size count = grind (arith, nat_tests, (gated bits size (count / 2)))

all_multiplied : (size n : ℕ) → pulses_of 10 size n ≡ pulses size n
all_multiplied size zero = refl
all_multiplied size (suc n) = grind (arith, nat_tests, (all_multiplied size n), (gated 10 size n))

-- ---- what its pulses add up to

-- at twice as many counts: each of the even ones by the top bit, and the odd ones as the bits below
twice : (bits size n : ℕ) → pulses_of (suc bits) size (2 * n) ≡ n * bit bits size + pulses_of bits size n
twice bits size zero = omega arith
twice bits size (suc n) =
    let two_more : 2 * suc n ≡ suc (suc (2 * n)) = omega arith in
    grind (arith, (ap (pulses_of (suc bits) size) two_more), (twice bits size n))

-- the pulses P of a size with remainder r at K counts, of 2 * A: r * K / A rounded half up
pub record IsRounded (A K r P : ℕ) : Type 0 where
  pub low : 2 * A * P ≤ 2 * (r * K) + A
  pub high : 2 * (r * K) + A < 2 * A * P + 2 * A

rounded_step : (A K b r P : ℕ) → IsRounded A K r P → IsRounded (2 * A) (2 * K) (b * A + r) (K * b + P)
rounded_step A K b r P h = record { low = omega (arith, h.low); high = omega (arith, h.high) }

rounded_one : (A b r : ℕ) → b ≤ 1 → r < A → IsRounded (2 * A) 1 (b * A + r) b
rounded_one A b r few small = grind (arith)

rounded : (bits size k : ℕ) → k ≤ bits → IsRounded (2 ^ bits) (2 ^ k) (size % 2 ^ bits) (pulses_of bits size (2 ^ k))
rounded zero size zero le = grind (arith)
rounded zero size (suc k) le = absurd (omega arith)
rounded (suc bits) size zero le =
    grind (arith, (pow-succ' 2 bits), (mod-pow-add size 1 bits), pow_pos, (rounded_one (2 ^ bits) (bit bits size) (size % 2 ^ bits)))
rounded (suc bits) size (suc k) le =
    grind (
      arith,
      (pow-succ' 2 k),
      (pow-succ' 2 bits),
      (mod-pow-add size 1 bits),
      (twice bits size (2 ^ k)),
      (rounded_step (2 ^ bits) (2 ^ k) (bit bits size) (size % 2 ^ bits) (pulses_of bits size (2 ^ k))
          (rounded bits size k (omega (arith, le)))),
    )

pub rounded_half_up : RoundedHalfUp
rounded_half_up = record {
  rounds = λ size scale small le. grind
      (arith, (rounded 10 size (scale + 1) (omega (arith, le))), nat_tests, (all_multiplied size (2 ^ (scale + 1))));
  stays = λ size scale over. grind (arith, nat_tests);
}

-- ---- more counts, more pulses

pub more_pulses : (size n all : ℕ) → n ≤ all → pulses size n ≤ pulses size all
more_pulses size n zero le = grind (arith)
more_pulses size n (suc all) le = grind (arith, (more_pulses size n all), (cases_eq n (suc all)))

-- a shift by at most nine places loses no bit
pub lossless : (t : ℕ) → t ≤ 9 → (2 * 2 ^ t % 2 ^ 16 ≡ 2 ^ (t + 1)) × (2 ^ (t + 1) ≤ 1024)
lossless t h = grind (arith, rules, common_steps, pow_mono, pow-suc, mod-eq_of_lt)
