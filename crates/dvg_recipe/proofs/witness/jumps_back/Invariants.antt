use Rattle.std.proofs.Common.{vec_len}
use Rattle.dvg_recipe.proofs.witness.jumps_back.Given as goal

abbrev pub decreases-loop-here : goal.decreases-loop-here
decreases-loop-here g l = vec_len l.fronts
