use Rattle.dvg_items.proofs.Common.{arith, ints, [], ◌∷◌, ◌≡◌, List, End, Effect, place_moved_by, place_past}
use Rattle.dvg_items.specs.Places.{fixed_place, total_move}
use Rattle.dvg_items.proofs.PlaceLaw.{moves_on}
use Rattle.dvg_items.proofs.laws.place_from_all.Goals as goal

by_effect : (first : End) (f : Effect) (es : List Effect)
    → place_moved_by (fixed_place first (f ∷ es)) (total_move (f ∷ es))
    ≡ place_past f (place_moved_by (fixed_place first es) (total_move es))
by_effect first f es = grind (arith, ints, moves_on)

pub returns : goal.returns
returns c k [] = grind (arith)
returns c k (i ∷ earlier) = grind (arith, (returns c k earlier), by_effect)
