-- Readers and writers that count their failed calls, and the writes that took their whole piece.
use Rattle.std.specs.Prelude.{◌≡◌, ℕ, ◌+◌, ◌-◌, ◌^◌, ◌≤◌, Bool, true, false, ◌==◌, ◌&&◌, not, nat_lt, List, length, take, Option, Result, Ok, Err, if◌then◌else◌}
use Rattle.std.specs.Io.KnownBytes.{Appends}
use Rattle.dvg_text.specs.declared.limits.TheConstants.{MOST_AT_ONCE}

-- a device, how many of its calls failed so far, and how many writes took their whole piece
pub record CountedDevice (T : Type 0) : Type 0 where
  pub device : T
  pub failures : ℕ
  pub whole_writes : ℕ

-- the count after a call that is counted or is not; it stops at the greatest u32
abbrev pub count_after : Bool → ℕ → ℕ
count_after true n = if nat_lt n (2 ^ 32 - 1) then n + 1 else n
count_after false n = n

-- a write failed: it answered an error, or took nothing of a piece that is not empty
abbrev pub write_failed : {E : Type 0} → Result ℕ E → List ℕ → Bool
write_failed (Ok n) bytes = (n == 0) && not (length bytes == 0)
write_failed (Err e) bytes = true

-- a write took the whole piece
abbrev pub took_whole : {E : Type 0} → Result ℕ E → List ℕ → Bool
took_whole (Ok n) bytes = n == length bytes
took_whole (Err e) bytes = false

-- exactly one write of a text of at most 4,096 bytes took its whole piece. If the writer takes each piece whole, it is the only
-- write (profile)
abbrev pub TakesOneWrite : List ℕ → ℕ → ℕ → Type 0
TakesOneWrite text old new = length text ≤ MOST_AT_ONCE → new ≡ count_after true old

-- a prefix of these bytes was written
abbrev pub AppendsPrefix : Option (List ℕ) → Option (List ℕ) → List ℕ → Type 0
AppendsPrefix old new bytes = (n : ℕ) × (n ≤ length bytes) × Appends old new (take n bytes)
