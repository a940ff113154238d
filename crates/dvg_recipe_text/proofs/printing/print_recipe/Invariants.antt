use Rattle.std.specs.Prelude.{length}
use Rattle.dvg_recipe_text.proofs.printing.print_recipe.Given as goal

abbrev pub decreases-printing : goal.decreases-printing
decreases-printing l = length l.rest
