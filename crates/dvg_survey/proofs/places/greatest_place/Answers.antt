use Rattle.dvg_survey.proofs.Common.{arith, ints, rules, ◌≡◌, pos, ◌-ℤ◌, w64, int_div_euclid, to_z-of_z, ◌+ℤ◌, SFits}
use Rattle.dvg_survey.proofs.Quotients.{quotient}
use Rattle.dvg_survey.proofs.places.greatest_place.Goals as goal

-- src/places.rt
pub returns : goal.returns
returns c =
    let n : SFits w64 (pos 0 -ℤ c.args.distance) = search rules in
    let a : SFits w64 c.from.result = search rules in
    let b : SFits w64 c.div_euclid.result = search rules in
    let from : c.from.result ≡ c.args.last = simp (to_z-of_z, c.ranges.last) at c.from.ensures in
    let quot : c.div_euclid.result ≡ int_div_euclid (pos 0 -ℤ c.args.distance) (pos 1024) =
    simp (to_z-of_z, c.ranges.distance, n) at c.div_euclid.ensures in
    let q = quotient (pos 0 -ℤ c.args.distance) in
    let e : SFits w64 (c.from.result +ℤ c.div_euclid.result) = search rules in
    rw (
      to_z-of_z w64 c.from.result a,
      to_z-of_z w64 c.div_euclid.result b,
      to_z-of_z w64 (c.from.result +ℤ c.div_euclid.result) e,
      from,
      quot,
    )
    (λ x. (λ h. omega (arith, ints, q.0, h), λ h. omega (arith, ints, q.1, h)))
