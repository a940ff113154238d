use Rattle.dvg_recipe.proofs.Common.{◌≡◌, take}
use Rattle.dvg_recipe.specs.Lengths.{JumpsHaveRoom}
use Rattle.dvg_recipe.proofs.lengths.jumps_past_end.Given as goal

abbrev pub invariant-loop-jump : goal.invariant-loop-jump
invariant-loop-jump l = (l.next ≡ l.jump-index) × JumpsHaveRoom (take l.jump-index l.jumps)
