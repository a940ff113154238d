use Rattle.dvg_recipe.proofs.Common.{take}
use Rattle.dvg_recipe.specs.Limits.{AreAddresses}
use Rattle.dvg_recipe.proofs.limits.are_addresses.Given as goal

abbrev pub invariant-loop-to : goal.invariant-loop-to
invariant-loop-to l = AreAddresses (take l.to-index l.targets)
