-- Looking an entry up among pairs of an address and key with an entry.
use Rattle.dvg_cert.proofs.Common.{nat_tests, IfSome, ◌≡◌, ℕ, Bool, ◌&&◌, List, [], ◌∷◌, ◌++◌, refl, ap, ◌∙◌, arith, suc, nat_eq, Entry, Key, At, Any, IsClaim, IsOwn, IsKeyed, same_key, is_at, entry_at}
use Rattle.std.proofs.lemmas.List.{map-append}
use Rattle.std.proofs.lemmas.List.Elements.{All-push}
use Rattle.std.specs.Map.{lookup, values_of}
pub use Rattle.std.proofs.lemmas.Map.Entries.{length-values_of}
use Rattle.dvg_cert.specs.contracts.entry.KeyPartialEq.TheImpl.{ghosts}

keyed_tail : (p : (ℕ × Key) × Entry) (ps : List ((ℕ × Key) × Entry)) → IsKeyed (p ∷ ps) → IsKeyed ps
keyed_tail p ps h = λ k d lt. h (suc k) d (omega (arith, lt))

pub lookup_is : (t : (ℕ × Key) → Bool) (addr : ℕ) (key : Key) → ((e : Entry) → t (e.addr, e.key) ≡ is_at addr key e)
    → (ps : List ((ℕ × Key) × Entry)) → IsKeyed ps → lookup t ps ≡ entry_at (values_of ps) addr key
lookup_is t addr key h [] k = refl
lookup_is t addr key h (p ∷ ps) k = rw (ap t (k 0 p (omega arith)).0 ∙ h p.1, lookup_is t addr key h ps (keyed_tail p ps k)) refl

-- what is found is within the limits
pub keyed_claim : (ps : List ((ℕ × Key) × Entry)) (addr : ℕ) (key : Key) → IsKeyed ps → IfSome (entry_at (values_of ps) addr key) IsClaim
keyed_claim [] addr key k = tt
keyed_claim (p ∷ ps) addr key k = grind (arith, nat_tests, (k 0 p (omega arith)), (keyed_claim ps addr key (keyed_tail p ps k)))

-- the tests of keys, and of addresses and keys, are those of the definitions
pub key_test : (a b : Key) → ghosts.eq a b ≡ same_key a b
key_test (At m) (At n) = refl
key_test (At m) Any = refl
key_test Any (At n) = refl
key_test Any Any = refl

abbrev pub pair_eq : (ℕ × Key) → (ℕ × Key) → Bool
pair_eq p q = nat_eq p.0 q.0 && ghosts.eq p.1 q.1

pub pair_test : (addr : ℕ) (key : Key) (e : Entry) → pair_eq (addr, key) (e.addr, e.key) ≡ is_at addr key e
pair_test addr key e = ap (λ b. nat_eq addr e.addr && b) (key_test key e.key)

-- ---- one pair more

pub values_of-append : (ps qs : List ((ℕ × Key) × Entry)) → values_of (ps ++ qs) ≡ values_of ps ++ values_of qs
values_of-append ps qs = map-append (λ p. p.1) ps qs

pub keyed_push : (ps : List ((ℕ × Key) × Entry)) (e : Entry) → IsClaim e → IsKeyed ps → IsKeyed (ps ++ ((e.addr, e.key), e) ∷ [])
keyed_push ps e claim h = All-push IsOwn ps ((e.addr, e.key), e) h (refl, claim)
