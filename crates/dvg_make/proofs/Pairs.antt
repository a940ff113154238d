-- The made entries, as pairs of an address and key with an entry. Sorted by address and key, they rise.
use Rattle.dvg_make.proofs.Common.{◌≡◌, ℕ, suc, ◌+◌, List, ◌∷◌, false, arith, entry_at, values_of, keys_of, Entry, Key, IsOwn, IsKeyed, IsRising, same_key, KeyBefore, Before, lookup_is, pair_test, pair_eq, key_test, values_of-append, keyed_claim, keyed_push, length-values_of, insert_entry-new, cases_lt, nat_tests, All-tail}
use Rattle.std.specs.Ordering.{nat_cmp, is_lt, ordering_then}
use Rattle.std.specs.List.{IsDistinct}
use Rattle.std.specs.List.Sorted.{IsSorted}
use Rattle.dvg_cert.specs.contracts.entry.KeyOrd.TheImpl.{ghosts as orders}

pub ruleset pairs = (lookup_is, pair_test, entry_at, values_of, values_of-append, keyed_claim, keyed_push, length-values_of, insert_entry-new)

key_after : (k l : Key) → is_lt (orders.cmp l k) ≡ false → same_key k l ≡ false → KeyBefore k l
key_after k l h s = grind (arith, cases_lt, nat_tests)

after : (p q : (ℕ × Key) × Entry) → IsOwn p → IsOwn q → is_lt (ordering_then (nat_cmp q.0.0 p.0.0) (orders.cmp q.0.1 p.0.1)) ≡ false
    → pair_eq p.0 q.0 ≡ false → Before p.1 q.1
after p q own own' h s = grind (arith, nat_tests, key_test, key_after, cases_lt)

pub rising : (ps : List ((ℕ × Key) × Entry)) → IsSorted (λ p q. ordering_then (nat_cmp p.0 q.0) (orders.cmp p.1 q.1)) (keys_of ps)
    → IsDistinct pair_eq (keys_of ps) → IsKeyed ps → IsRising (values_of ps)
unfolding IsDistinct
rising (p ∷ q ∷ ps) sorted apart keyed = (
  after p q (keyed 0 p (omega arith)) (keyed 1 p (omega arith)) (sorted 0 p.0 (omega arith) (omega arith)) apart.0.0,
  rising (q ∷ ps) (λ k d le lt. let next : suc k + 1 ≡ suc (k + 1) = omega arith in
      rw next at (sorted (suc k) d (omega arith) (omega (arith, lt)))) apart.1 (All-tail IsOwn p (q ∷ ps) keyed),
)
rising ps sorted apart keyed = tt
