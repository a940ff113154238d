use Rattle.dvg_recipe.proofs.Doing.{corner_fits}
use Rattle.dvg_items.proofs.Common.{to_z-of_z}
use Rattle.dvg_recipe.proofs.changes.corner.Goals as goal

pub invariant_of-result : goal.invariant_of-result
invariant_of-result c =
    simp (to_z-of_z, c.ranges.dx, c.ranges.dy, c.ranges.bright)
    (corner_fits c.args.range.now c.args.dx c.args.dy c.args.bright c.requires.fits c.requires.dx c.requires.dy c.requires.bright)
