use Rattle.dvg_text.proofs.Common.{arith, take_rest}
use Rattle.dvg_text.proofs.Leading.{digits_lead}
use Rattle.dvg_text.proofs.numerals.digits_taken.Goals.{else-bytes-eq48-via-then-bytes-eq48+else-count-gt1, else-bytes-eq48-via-else-bytes-eq48}
use Rattle.dvg_text.proofs.numerals.digits_taken.Goals as goal

pub returns : goal.returns
returns c = rw take_rest (digits_lead c.args.count c.args.number c.args.bytes.now c.requires.digits c.requires.value c.requires.few
    c.requires.within c.requires.all (omega arith)
    (λ z. elim c.else-bytes-eq48.branch [
      | else-bytes-eq48-via-then-bytes-eq48+else-count-gt1 w ↦ w.if-count-gt1.false
      | else-bytes-eq48-via-else-bytes-eq48 w ↦ absurd (w.if-bytes-eq48.false z)
    ]))
