use Rattle.dvg_recipe.proofs.Common.{sym, subst}
use Rattle.dvg_recipe.specs.Private.Hulls.{IsSoundChange}
use Rattle.dvg_recipe.proofs.Doing.{call_sound}
use Rattle.dvg_recipe.proofs.changes.act_change.Goals as goal

pub returns-in-Call-clause-sound : goal.returns-in-Call-clause-sound
returns-in-Call-clause-sound g c =
    subst IsSoundChange (sym c.call_change.ensures) (call_sound c.callee.result c.args.scale c.callee.ensures.claim c.requires.key)
