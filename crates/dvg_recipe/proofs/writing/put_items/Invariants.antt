use Rattle.dvg_items.specs.Bounds.{IsSoundCursor}
use Rattle.dvg_recipe.proofs.writing.put_items.Given as goal

abbrev pub invariant-loop-index : goal.invariant-loop-index
invariant-loop-index l = IsSoundCursor (record { at = l.index; known = l.known })
