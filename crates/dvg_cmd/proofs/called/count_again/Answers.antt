use Rattle.dvg_cmd.proofs.Common.{◌≡◌, ◌<◌, ◌+◌, ◌-◌, ℕ, List, length, get_or, arith, common_steps, sym, ap, ◌∙◌}
use Rattle.std.specs.Prelude.{◌^◌, if◌then◌else◌, nat_lt, slice_set}
use Rattle.std.proofs.lemmas.Option.{slice_get-get_or}
use Rattle.dvg_cmd.specs.Called.{CalledCount, again, again_at}
use Rattle.dvg_cmd.proofs.called.count_again.Goals as goal

-- one more of the count that stands at a place
once_more : (xs : List CalledCount) (at : ℕ) (d : CalledCount) (n : ℕ) → at < length xs
    → n ≡ (if nat_lt (get_or xs at d).count (2 ^ 32 - 1) then (get_or xs at d).count + 1 else (get_or xs at d).count)
    → slice_set xs at (record { called = (get_or xs at d).called; count = n }) ≡ again_at xs at
once_more xs at d n within more =
    ap (λ m. slice_set xs at (record { called = (get_or xs at d).called; count = m })) more
    ∙ ap (again xs at) (sym (slice_get-get_or xs at d within))

pub returns-then-at-counts : goal.returns-then-at-counts
returns-then-at-counts c =
    once_more c.args.counts.now c.args.at c.index-counts-at.result c.saturating_add-there.result (grind (arith, common_steps))
    (grind (arith, common_steps))
