use Rattle.dvg_text.proofs.Common.{◌-◌, None, Ok, arith, rules, length-take-le, LONGEST_LINE, EndsLine}
use Rattle.dvg_text.proofs.Refusals.{not_whole, rest_free, line_refused, end_fault, begins, after_refused}
use Rattle.dvg_text.proofs.reader.take_next.Goals as goal

pub returns-in-Some : goal.returns-in-Some
returns-in-Some c =
    after_refused c.line_number-line.result c.in-Some.fault c.args.lines.now c.args.begun.now.items c.args.rest.now c.requires.taken
    c.requires.begun (c.if-is_whole.ensures.0 (search rules)) c.line_number-line.ensures c.in-Some.ensures.some.0 c.in-Some.ensures.some.1

pub returns-in-Ok-None : goal.returns-in-Ok-None
returns-in-Ok-None c =
    let u = not_whole c.args.lines.now (λ h. let t = c.if-is_whole.ensures.1 h in absurd (search rules)) in
    let e : EndsLine (LONGEST_LINE - c.len.result) c.args.rest.now (Ok None) = rw c.in-Ok-None.field-0-is at c.in-Ok-None.ensures in
    begins c.args.lines.now c.args.begun.now.items c.args.rest.now c.push_bytes.new.buffer.items c.requires.taken u c.requires.begun e.0
    (omega (arith, e.1)) c.push_bytes.ensures

pub returns-in-Err : goal.returns-in-Err
returns-in-Err c = grind (arith, not_whole, end_fault)

pub returns-in-Err-take_begun : goal.returns-in-Err-take_begun
returns-in-Err-take_begun c = grind (arith, not_whole, rest_free, line_refused, length-take-le)
