use Rattle.dvg_recipe.proofs.Common.{take}
use Rattle.dvg_recipe.specs.Private.Hulls.{AreUnder}
use Rattle.dvg_recipe.proofs.hulls.add_all.Given as goal

abbrev pub invariant-loop-hull : goal.invariant-loop-hull
invariant-loop-hull l =
    AreUnder l.initial.hulls.items l.hulls.items × AreUnder (take l.hull-index l.more) l.hulls.items
