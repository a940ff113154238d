-- Where an entry is looked for in a list that rises. No rule stands here.
use Rattle.std.specs.Prelude.{ℕ, ◌==◌, nat_lt, ◌&&◌, ◌||◌, Bool, true, false}
use Rattle.dvg_cert.specs.Entry.{Entry, Key, At, Any}

-- the first key stands before the second: `any` after all numbers
abbrev pub lower_key : Key → Key → Bool
lower_key (At m) (At n) = nat_lt m n
lower_key (At m) Any = true
lower_key Any key = false

-- the entry stands before the place of this address and key
abbrev pub stands_before : ℕ → Key → Entry → Bool
stands_before addr key e = nat_lt e.addr addr || (e.addr == addr && lower_key e.key key)
