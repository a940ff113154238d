use Rattle.dvg_recipe_cmd.proofs.Common.{refl, arith, common_steps}
use Rattle.std.specs.Prelude.{string_bytes}
use Rattle.dvg_cmd.specs.Detail.{Behind}
use Rattle.dvg_cmd.specs.Telling.{Line}
use Rattle.dvg_recipe_cmd.specs.Recipes.{RecipeAnswer}
use Rattle.dvg_cmd.proofs.LineByLine.{on_err}
use Rattle.dvg_cmd.proofs.ToldLines.{line_told, cut_told}
use Rattle.dvg_recipe_cmd.proofs.recipes.RecipeTellerTellNamedReader.tell.Goals as goal

pub returns-in_err-write_line-clause-prefix : goal.returns-in_err-write_line-clause-prefix
returns-in_err-write_line-clause-prefix g c =
    let line : Line (RecipeAnswer × Behind) = record { name = string_bytes c.args.thing.name; answer = (c.answer_opened-answer.result.answer, c.answer_opened-answer.result.behind) } in
    on_err c.from_residual.result
    (cut_told _ _ c.args.thing line
    (record { name_is = refl; answers = c.answer_opened-answer.ensures.answers; asked = c.answer_opened-answer.ensures.behind })
    c.args.progress.now c.outcome_behind-outcome.result _ (grind (arith, common_steps)) (grind (arith, common_steps)) _ _
    c.in_err-write_line.ensures.prefix)

pub returns-clause-ok : goal.returns-clause-ok
returns-clause-ok g c =
    let line : Line (RecipeAnswer × Behind) = record { name = string_bytes c.args.thing.name; answer = (c.answer_opened-answer.result.answer, c.answer_opened-answer.result.behind) } in
    line_told _ _ c.args.thing line
    (record { name_is = refl; answers = c.answer_opened-answer.ensures.answers; asked = c.answer_opened-answer.ensures.behind })
    c.args.progress.now c.outcome_behind-outcome.result _ (grind (arith, common_steps)) (grind (arith, common_steps)) _ _ _ _
    c.in_ok-write_line.ensures.sent _ (c.add.ensures)
