use Rattle.dvg_items.proofs.Common.{arith, [], ◌∷◌, refl}
use Rattle.dvg_items.proofs.laws.scale_from_all.Goals as goal

pub returns : goal.returns
returns c k [] = refl
returns c k (i ∷ earlier) = grind (arith, (returns c k earlier))
