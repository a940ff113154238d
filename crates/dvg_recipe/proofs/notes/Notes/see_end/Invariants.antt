use Rattle.dvg_recipe.proofs.Common.{◌≡◌}
use Rattle.dvg_recipe.proofs.notes.Notes.see_end.Given as goal

abbrev pub invariant-loop-hull : goal.invariant-loop-hull
invariant-loop-hull l = l.self ≡ l.fn.self
