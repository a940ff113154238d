use Rattle.std.proofs.lemmas.Result.{IfOk-at_ok}
use Rattle.dvg_recipe_cmd.proofs.Common.{refl, subst, sym}
use Rattle.dvg_recipe_cmd.specs.Recipes.{IsTimedAnswer}
use Rattle.dvg_recipe_cmd.proofs.Verdicts.{timed_yes, told}
use Rattle.dvg_recipe_cmd.proofs.judging.Ready.time.Goals as goal

pub returns-in-Ok-Ok : goal.returns-in-Ok-Ok
returns-in-Ok-Ok c =
    let said = c.in-Ok-Ok.ensures in
    let is = c.in-Ok-Ok.field-0-is in
    let r = c.args.self.now in
    let clocks = c.args.clocks.now in
    let timed = c.in-Ok-Ok.timed in
    subst (IsTimedAnswer r.explained.rom.now r.explained.options clocks) (sym c.answer.ensures)
    (told r c.requires clocks timed clocks.line refl
    (timed_yes r c.requires clocks.timing timed (IfOk-at_ok _ is said.means) said.fits (IfOk-at_ok _ is said.take)
    (IfOk-at_ok _ is said.within)))
