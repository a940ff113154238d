use Rattle.std.specs.Prelude.{◌≤◌, ◌+◌, length}
use Rattle.dvg_recipe_text.specs.declared.limits.TheConstants.{MOST_LINES}
use Rattle.dvg_recipe_text.proofs.reading.read_recipe.Given as goal

abbrev pub decreases-reading : goal.decreases-reading
decreases-reading l = length l.rest

abbrev pub invariant-reading : goal.invariant-reading
invariant-reading l = record {
  counted : 1 ≤ l.line;
  within : l.line ≤ MOST_LINES + 1;
}
