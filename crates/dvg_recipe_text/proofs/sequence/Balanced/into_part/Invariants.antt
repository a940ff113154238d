use Rattle.std.proofs.Common.{vec_len}
use Rattle.dvg_recipe_text.proofs.sequence.Balanced.into_part.Given as goal

abbrev pub decreases-joining : goal.decreases-joining
decreases-joining l = vec_len l.trees
