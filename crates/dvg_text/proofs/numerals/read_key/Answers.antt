use Rattle.dvg_text.proofs.Common.{◌∙◌, sym, rules, arith}
use Rattle.dvg_text.proofs.FieldValues.{no_key}
use Rattle.dvg_text.proofs.numerals.read_key.Goals as goal

pub returns-in_err-number-clause-none : goal.returns-in_err-number-clause-none
returns-in_err-number-clause-none c =
    rw c.from_residual.ensures (no_key _ c.args.token.now (omega arith) (omega arith) (search rules)
    (sym c.natural.ensures.value ∙ c.in_err-number.was))
