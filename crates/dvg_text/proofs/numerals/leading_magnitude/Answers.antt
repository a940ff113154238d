use Rattle.dvg_text.proofs.Common.{◌∙◌, refl, ap, subst, arith, AllDigits, digits_value, take_rest, take-take}
use Rattle.dvg_text.proofs.Steps.{magnitude_read}
use Rattle.dvg_text.proofs.DigitSums.{window_ends}
use Rattle.dvg_text.proofs.numerals.leading_magnitude.Goals as goal

pub returns-clause-read : goal.returns-clause-read
returns-clause-read c =
    let count = c.leading_digits-count.result in
    let long = c.in_ok-window.ensures.variant.0 refl in
    let same = c.in_ok-window.ensures.cases.same in
    let digits =
    subst (AllDigits 10) (take-take count 16 c.args.bytes.now c.leading_digits-count.ensures.few)
    (rw same at c.leading_digits-count.ensures.digits) in
    let ends = window_ends count c.args.bytes.now long (omega arith) (rw same at (c.leading_digits-count.ensures.end (omega arith))) in
    let value = (rw same at c.number_of_digits-number.ensures) ∙ ap (digits_value 10) (take-take count 16 c.args.bytes.now (omega arith)) in
    rw take_rest (magnitude_read count c.number_of_digits-number.result c.args.bytes.now digits value (omega arith) (omega arith)
    (omega arith) ends c.if-bytes-eq48.false (omega arith))
