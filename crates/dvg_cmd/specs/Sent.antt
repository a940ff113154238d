-- Texts that are written one after another. All of it is this project's own.
use Rattle.std.specs.Prelude.{◌≡◌, ℕ, List, [], ◌∷◌, ◌++◌, Option, Result, OnOk, OnErr, is_err}
use Rattle.std.specs.Io.KnownBytes.{Appends}
use Rattle.dvg_text.specs.Devices.{AppendsPrefix, TakesOneWrite, count_after}

-- texts, one after another
abbrev pub joined : List (List ℕ) → List ℕ
joined [] = []
joined (text ∷ rest) = text ++ joined rest

-- each was written by one write if it fits one
abbrev pub TakeOneWriteEach : List (List ℕ) → ℕ → ℕ → Type 0
TakeOneWriteEach [] old new = new ≡ old
TakeOneWriteEach (text ∷ rest) old new = (next : ℕ) × TakesOneWrite text old next × TakeOneWriteEach rest next new

-- these texts were written, each by one write if it fits one; `writes` and `writes_after` count the writes that took their whole piece
pub record Sent (texts : List (List ℕ)) (old new : Option (List ℕ)) (writes writes_after : ℕ) : Type 0 where
  pub written : Appends old new (joined texts)
  pub one_write : TakeOneWriteEach texts writes writes_after

-- what a call that ended so did to its writer: on success these texts were written; where it failed, a prefix of them, and that is counted
pub record Writes {W A E : Type 0} (contents : W → Option (List ℕ)) (whole_writes failures : W → ℕ) (old new : W) (result : Result A E)
    (texts : List (List ℕ)) : Type 0 where
  pub sent : OnOk result (Sent texts (contents old) (contents new) (whole_writes old) (whole_writes new))
  pub prefix : OnErr result (AppendsPrefix (contents old) (contents new) (joined texts))
  pub count : failures new ≡ count_after (is_err result) (failures old)
