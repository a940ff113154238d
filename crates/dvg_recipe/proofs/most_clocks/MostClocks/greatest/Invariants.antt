use Rattle.dvg_recipe.proofs.Common.{◌<◌, ℕ, Some, None, get_or}
use Rattle.dvg_clocks.specs.declared.clocks.ClockRange.{ClockRange}
use Rattle.dvg_recipe.specs.Private.Clocks.{IsUnder}
use Rattle.dvg_recipe.proofs.most_clocks.MostClocks.greatest.Given as goal

abbrev pub invariant-loop-scale : goal.invariant-loop-scale
invariant-loop-scale l = (s : ℕ) (n : ClockRange) → s < l.scale → IsUnder n (get_or l.self.at s None) → IsUnder n (Some l.most)
