use Rattle.dvg_recipe.proofs.Common.{◌≡◌}
use Rattle.dvg_recipe.proofs.Knowing.{IsKnownSoFar}
use Rattle.dvg_recipe.proofs.known_places.all_known.Given as goal

abbrev pub invariant-loop-item : goal.invariant-loop-item
invariant-loop-item l =
    (l.maker.rom ≡ l.fn.rom) × (l.here.at ≡ l.item-index) × IsKnownSoFar l.fn.rom l.items l.item-index l.known.items l.here.known
