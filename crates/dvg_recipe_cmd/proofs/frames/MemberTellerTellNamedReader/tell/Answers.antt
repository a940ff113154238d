use Rattle.dvg_recipe_cmd.proofs.Common.{◌∙◌, ap, refl, arith, common_steps}
use Rattle.std.specs.Prelude.{string_bytes}
use Rattle.dvg_cmd.specs.Detail.{Behind}
use Rattle.dvg_cmd.specs.Telling.{Line, gone}
use Rattle.dvg_recipe_cmd.specs.declared.membership.Membership.{Membership}
use Rattle.dvg_cmd.proofs.LineByLine.{on_err}
use Rattle.dvg_cmd.proofs.ToldLines.{line_told, cut_told}
use Rattle.dvg_recipe_cmd.proofs.frames.MemberTellerTellNamedReader.tell.Goals as goal

pub returns-in_err-write_line-clause-prefix : goal.returns-in_err-write_line-clause-prefix
returns-in_err-write_line-clause-prefix g c =
    let line : Line (Membership × Behind) = record { name = string_bytes c.args.thing.name; answer = (c.membership_read-membership.result.0, c.membership_read-membership.result.1) } in
    on_err c.from_residual.result
    (cut_told _ _ c.args.thing line
    (record { name_is = refl; answers = c.membership_read-membership.ensures.answers; asked = c.membership_read-membership.ensures.behind })
    c.args.progress.now c.outcome_behind-outcome.result _ (grind (arith, common_steps)) (grind (arith, common_steps)) _ _
    c.in_err-write_line.ensures.prefix)

pub returns-clause-ok : goal.returns-clause-ok
returns-clause-ok g c =
    let line : Line (Membership × Behind) = record { name = string_bytes c.args.thing.name; answer = (c.membership_read-membership.result.0, c.membership_read-membership.result.1) } in
    line_told _ _ c.args.thing line
    (record { name_is = refl; answers = c.membership_read-membership.ensures.answers; asked = c.membership_read-membership.ensures.behind })
    c.args.progress.now c.outcome_behind-outcome.result _ (grind (arith, common_steps)) (grind (arith, common_steps)) _ _ _ _
    c.in_ok-write_line.ensures.sent _ (c.add-2.ensures ∙ ap (gone c.args.progress.now c.outcome_behind-outcome.result) c.add.ensures)
