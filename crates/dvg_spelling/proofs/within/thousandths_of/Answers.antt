use Rattle.dvg_spelling.proofs.Withins.{none_before, none_behind, none_whole}
use Rattle.dvg_spelling.proofs.within.thousandths_of.Goals as goal

pub returns-in_err-read_decimal-in-None-clause-none : goal.returns-in_err-read_decimal-in-None-clause-none
returns-in_err-read_decimal-in-None-clause-none c =
    rw c.from_residual.ensures (none_whole c.args.text.now c.split_once.result c.split_once.ensures.cases c.in-None.is
    (λ n le is. c.in_err-read_decimal-in-None.ensures.none n le (rw c.as_bytes.ensures.value is)))

pub returns-in_err-whole-in-Some-clause-none : goal.returns-in_err-whole-in-Some-clause-none
returns-in_err-whole-in-Some-clause-none c =
    rw c.from_residual-in_err-whole-in-Some.ensures
    (none_before c.args.text.now c.split_once.result c.split_once.ensures.cases (c.in-Some.whole, c.in-Some.digits) c.in-Some.is
    (λ n le is. c.in_err-whole-in-Some.ensures.none n le (rw c.as_bytes-in-Some.ensures.value is)))

pub returns-in_err-fraction_of-in-Some-clause-none : goal.returns-in_err-fraction_of-in-Some-clause-none
returns-in_err-fraction_of-in-Some-clause-none c =
    rw c.from_residual-in_err-fraction_of-in-Some.ensures
    (none_behind c.args.text.now c.split_once.result c.split_once.ensures.cases (c.in-Some.whole, c.in-Some.digits) c.in-Some.is
    c.in_err-fraction_of-in-Some.ensures.none)
