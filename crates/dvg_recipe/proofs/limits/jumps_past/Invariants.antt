use Rattle.dvg_recipe.proofs.Common.{◌↔◌, ℕ, drop}
use Rattle.dvg_recipe.specs.Limits.{JumpsFit}
use Rattle.dvg_recipe.proofs.limits.jumps_past.Given as goal

abbrev pub invariant-loop-jump : goal.invariant-loop-jump
invariant-loop-jump l = (m : ℕ) → JumpsFit l.jumps l.fn.word l.first m ↔ JumpsFit (drop l.jump-index l.jumps) l.word l.next m
