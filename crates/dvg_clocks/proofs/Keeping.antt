-- What is kept of shapes, by the map that keeps it.
use Rattle.dvg_clocks.proofs.Common.{◌≡◌, ℕ, Bool, [], ◌∷◌, refl, sym, ap, Key, Kept, found_at}
use Rattle.std.specs.Prelude.{◌==◌, ◌&&◌}
use Rattle.std.specs.Map.{lookup}
use Rattle.dvg_cert.specs.Lookup.{same_key}
use Rattle.dvg_cert.proofs.Pairs.{pair_eq, key_test}

same_lookup : (t u : (ℕ × Key) → Bool) → ((p : ℕ × Key) → t p ≡ u p) → (kept : Kept) → lookup t kept ≡ lookup u kept
same_lookup t u h [] = refl
same_lookup t u h (p ∷ ps) = rw (h p.0, same_lookup t u h ps) refl

same_pair : (addr : ℕ) (key : Key) (p : ℕ × Key) → ((addr == p.0) && same_key key p.1) ≡ pair_eq (addr, key) p
same_pair addr key p = ap (λ b. (addr == p.0) && b) (sym (key_test key p.1))

-- what is found is what the map has
pub found_in : (addr : ℕ) (key : Key) (kept : Kept) → found_at kept addr key ≡ lookup (pair_eq (addr, key)) kept
found_in addr key kept = same_lookup _ _ (same_pair addr key) kept

pub pair_of : (addr : ℕ) (key : Key) (p : ℕ × Key) → ((addr == p.0) && same_key key p.1) ≡ pair_eq (addr, key) p
pair_of = same_pair
