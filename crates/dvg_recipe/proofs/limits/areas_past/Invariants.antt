use Rattle.dvg_recipe.proofs.Common.{◌↔◌, ℕ, drop}
use Rattle.dvg_recipe.specs.Limits.{AreasFit}
use Rattle.dvg_recipe.proofs.limits.areas_past.Given as goal

abbrev pub invariant-loop-area : goal.invariant-loop-area
invariant-loop-area l = (m : ℕ) → AreasFit l.areas 0 m ↔ AreasFit (drop l.area-index l.areas) l.next m
