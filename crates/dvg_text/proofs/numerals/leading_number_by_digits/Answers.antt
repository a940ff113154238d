use Rattle.dvg_text.proofs.Common.{refl, get_or, arith, length-take-le}
use Rattle.dvg_text.proofs.Digits.{below, one_digit}
use Rattle.dvg_text.proofs.Leading.{too_long}
use Rattle.dvg_text.proofs.numerals.leading_number_by_digits.Goals as goal

pub loop-i-preserved : goal.loop-i-preserved
loop-i-preserved c = grind (arith, one_digit)

pub returns-then-i-eq13 : goal.returns-then-i-eq13
returns-then-i-eq13 c =
    let d = one_digit c.args.bytes.now c.loop-i.i (get_or c.args.bytes.now c.loop-i.i 0) c.loop-i.number c.loop-i-test.true refl
    (omega (arith, (c.type_inv.bytes c.loop-i.i).fits)) (omega (arith, (c.type_inv.bytes c.loop-i.i).fits)) c.loop-i.invariant.digits
    c.loop-i.invariant.value in
    too_long c.args.bytes.now c.loop-i.i c.loop-i-test.true c.if-i-eq13.true d.0

pub overflow_mul-number : goal.overflow_mul-number
overflow_mul-number c = grind (arith, below, length-take-le)

pub overflow_add-number : goal.overflow_add-number
overflow_add-number c = grind (arith, below, length-take-le)
