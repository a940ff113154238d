-- How much of a line is left.
use Rattle.std.specs.Prelude.{ℕ, suc, List, Option, Some, None, length}
use Rattle.std.specs.Borrow.{Bor}

-- a number that goes down with each word that is taken
abbrev pub left_of : Option (Bor (List ℕ)) → ℕ
left_of None = 0
left_of (Some line) = suc (length line.now)
