-- Entries that are found stand in the list, within the limits of a certificate.
use Rattle.dvg_items.proofs.Common.{Option, Some, arith, List, ◌≡◌, ◌∷◌, ℕ, [], rules, common_steps, nat_tests, Contains, entry_at, callee_at, IsClaim, IsSomeCertificate}
use Rattle.dvg_cert.specs.declared.entry.Entry.{Entry}
use Rattle.dvg_cert.specs.declared.entry.Key.{Key}
use Rattle.dvg_cert.proofs.OnlyEntries.{later}
use Rattle.dvg_items.proofs.Lists.{at_place}

pub record Listed (list : List Entry) (addr : ℕ) (key : Key) (f : Entry) : Type 0 where
  pub listed : Contains list f
  pub addr_is : f.addr ≡ addr
  pub key_is : f.key ≡ key

pub listed_at : (list : List Entry) (addr : ℕ) (key : Key) (f : Entry) → entry_at list addr key ≡ Some f → Listed list addr key f
listed_at [] addr key f e = cc
listed_at (x ∷ list) addr key f e = grind (arith, nat_tests, (listed_at list addr key f), later)

pub named_listed : (list : List Entry) (o : Option ℕ) (scale : Key) (f : Entry) → callee_at list o scale ≡ Some f → Contains list f
named_listed list o scale f e = grind (arith, listed_at)

pub listed_claim : (list : List Entry) (e : Entry) → IsSomeCertificate list → Contains list e → IsClaim e
listed_claim list e c h = grind (arith, rules, common_steps, at_place)
