use Rattle.dvg_cmd.proofs.Common.{◌≡◌, ℕ, List, length, arith, common_steps, rules, append-nil, drop_all, take_all}
use Rattle.std.specs.List.{refill}
use Rattle.std.proofs.lemmas.List.{length-set}
use Rattle.dvg_cmd.specs.Called.{CalledCount, again, again_at}
use Rattle.dvg_cmd.proofs.called.count_called.Goals as goal

same_length : {A : Type 0} (xs ws : List A) → length ws ≡ length xs → refill (length xs) xs ws ≡ ws
same_length xs ws same = grind (arith, refill, drop_all, take_all, append-nil)

-- a count more of one of them leaves as many
as_many : (xs : List CalledCount) (at : ℕ) → length (again_at xs at) ≡ length xs
as_many xs at = grind (rules, again_at, again, length-set)

pub returns-then-is_counted : goal.returns-then-is_counted
returns-then-is_counted c =
    let xs = c.args.counts.now.items in
    grind (arith, common_steps, (same_length xs (again_at xs c.place_of-at.result) (as_many xs c.place_of-at.result)))
