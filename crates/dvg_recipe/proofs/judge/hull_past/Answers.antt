use Rattle.std.proofs.Common.{◌≤◌}
use Rattle.dvg_recipe.proofs.Common.{◌+◌, subst, sym}
use Rattle.dvg_cert.specs.declared.limits.TheConstants.{MOST_WORDS}
use Rattle.dvg_recipe.specs.Private.Hulls.{Hull}
use Rattle.dvg_recipe.proofs.Leads.{near_most}
use Rattle.dvg_recipe.proofs.Past.{past_sound}
use Rattle.dvg_recipe.proofs.judge.hull_past.Goals as goal

pub places_past-requires-clause-places : goal.places_past-requires-clause-places
places_past-requires-clause-places c = near_most _ c.hull.invariant

pub invariant_of-result : goal.invariant_of-result
invariant_of-result c =
    rw (c.places_in.ensures, c.places_past.ensures, c.max.ensures)
    (past_sound _ c.args.change.now c.hull.invariant c.requires.change
    (subst (λ (h : Hull). c.args.change.now.words + h.words ≤ MOST_WORDS) (sym c.hull.view_is) c.requires.few))
