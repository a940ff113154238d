use Rattle.std.proofs.Common.{vec_len}
use Rattle.dvg_recipe.proofs.witness.+part_before.Given as goal

abbrev pub decreases-turns_back-loop-here : goal.decreases-turns_back-loop-here
decreases-turns_back-loop-here g l = vec_len l.fronts
