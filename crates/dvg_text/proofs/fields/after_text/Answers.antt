use Rattle.dvg_text.proofs.Common.{rules}
use Rattle.dvg_text.proofs.Steps.{past_found, past_not_found}
use Rattle.dvg_text.proofs.fields.after_text.Goals as goal

pub returns-then-is_same : goal.returns-then-is_same
returns-then-is_same g c =
    let parts = c.in_ok-prefix.ensures.cases in
    past_found _ c.args.text.now c.args.bytes.now c.in_ok-prefix.prefix.now c.in_ok-prefix.rest.now parts.0 parts.1 (search rules)

pub returns-else-is_same : goal.returns-else-is_same
returns-else-is_same g c =
    past_not_found _ c.args.text.now c.args.bytes.now c.in_ok-prefix.prefix.now c.in_ok-prefix.ensures.cases.0 (search rules) (search rules)
