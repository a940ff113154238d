use Rattle.dvg_recipe.proofs.Past.{joined_sound}
use Rattle.dvg_recipe.proofs.hulls.joined.Goals as goal

pub invariant_of-result : goal.invariant_of-result
invariant_of-result c =
    rw (c.joined_places.ensures, c.max.ensures, c.max-2.ensures) (joined_sound _ _ c.one.invariant c.other.invariant)
