use Rattle.dvg_spelling.proofs.Common.{arith}
use Rattle.dvg_spelling.proofs.Withins.{one_value}
use Rattle.dvg_spelling.proofs.within.limit_of.Goals as goal

pub returns-in_err-thousandths-clause-none : goal.returns-in_err-thousandths-clause-none
returns-in_err-thousandths-clause-none c = rw c.from_residual.ensures (λ limit h. c.in_err-thousandths.ensures.none h.value h.spelled)

pub returns-in_default-clause-none : goal.returns-in_default-clause-none
returns-in_default-clause-none c =
    λ limit h. let same =
    one_value c.args.text.now c.in_ok-thousandths.thousandths h.value c.in_ok-thousandths.ensures.some h.spelled in
    absurd (omega (arith, same, h.some, h.few, c.in_default))

pub returns-in_default-2-clause-none : goal.returns-in_default-2-clause-none
returns-in_default-2-clause-none c =
    λ limit h. let same =
    one_value c.args.text.now c.in_ok-thousandths.thousandths h.value c.in_ok-thousandths.ensures.some h.spelled in
    absurd (omega (arith, same, h.some, h.few, c.in_default))
