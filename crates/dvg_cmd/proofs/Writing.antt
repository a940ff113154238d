-- Lines that are written one after another, where each write may fail.
use Rattle.dvg_cmd.proofs.Common.{◌≡◌, sym, ap, subst, ℕ, List, [], Option, Result, refl, true, Bool}
use Rattle.std.specs.Prelude.{if◌then◌else◌}
use Rattle.std.proofs.KnownBytes.{Appends-nil}
use Rattle.dvg_cmd.specs.Sent.{Sent, Writes}

-- nothing was written
pub none_sent : (texts : List (List ℕ)) → texts ≡ [] → (old : Option (List ℕ)) (writes : ℕ) → Sent texts old old writes writes
none_sent texts none old writes =
    subst (λ ts. Sent ts old old writes writes) (sym none) (record { written = Appends-nil old; one_write = refl })

module _ {W A E : Type 0} {contents : W → Option (List ℕ)} {whole_writes failures : W → ℕ} {old new : W} {r : Result A E} where
  -- the same texts
  pub same_texts : {texts lines : List (List ℕ)} → texts ≡ lines → Writes contents whole_writes failures old new r texts
      → Writes contents whole_writes failures old new r lines
  same_texts is h = subst (λ ts. Writes contents whole_writes failures old new r ts) is h

  -- those that are written where this is so, and none else
  pub if_shown : {texts : List (List ℕ)} {b : Bool} → b ≡ true → Writes contents whole_writes failures old new r texts
      → Writes contents whole_writes failures old new r (if b then texts else [])
  if_shown {texts = texts} is h = same_texts (ap (λ b. if b then texts else []) (sym is)) h
