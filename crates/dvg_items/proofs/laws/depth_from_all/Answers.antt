use Rattle.dvg_items.proofs.Common.{arith, ℕ, List, [], ◌∷◌, ◌≡◌, refl, max, fold}
use Rattle.dvg_items.proofs.laws.depth_from_all.Goals as goal

greatest_from : (n : ℕ) (ns : List ℕ) → fold max n ns ≡ max n (fold max 0 ns)
greatest_from n [] = omega arith
greatest_from n (k ∷ ns) = omega (arith, greatest_from (max n k) ns, greatest_from (max 0 k) ns)

pub returns : goal.returns
returns c k [] = refl
returns c k (i ∷ earlier) = grind (arith, (returns c k earlier), greatest_from)
