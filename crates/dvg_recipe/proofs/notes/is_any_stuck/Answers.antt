use Rattle.dvg_recipe.proofs.Common.{◌<◌, length, arith, Contains-get_or}
use Rattle.dvg_recipe.proofs.Leads.{near_most}
use Rattle.dvg_recipe.proofs.notes.is_any_stuck.Goals as goal

pub is_stuck-requires-clause-places : goal.is_stuck-requires-clause-places
is_stuck-requires-clause-places c = near_most _ c.hull.invariant

pub is_stuck-requires-clause-motion : goal.is_stuck-requires-clause-motion
is_stuck-requires-clause-motion c =
    let lt : c.loop-change.change-index < length c.args.changes.now = omega (arith, c.loop-change-test.true) in
    (c.requires.changes.each _ (Contains-get_or c.args.changes.now c.loop-change.change-index _ lt)).motion
