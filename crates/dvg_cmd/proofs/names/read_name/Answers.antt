use Rattle.dvg_cmd.proofs.Common.{◌∙◌, get_or, subst, arith, common_steps, Consumes, end_byte}
use Rattle.dvg_cmd.proofs.Naming.{first_byte, ended}
use Rattle.dvg_cmd.proofs.names.read_name.Goals as goal

pub returns-then-read-byte-clause-name : goal.returns-then-read-byte-clause-name
returns-then-read-byte-clause-name g c =
    let buf = c.read_counted.new.buf in
    let one = first_byte c.in_ok-read_counted.field-0 buf c.in_ok-read_counted.ensures.bound.0 (grind (arith, common_steps))
    c.if-branch-eq0.false in
    let read = subst (λ bytes. Consumes (g.R.Read.remaining c.loop-len.list) (g.R.Read.remaining c.read_counted.new.self) bytes) one
    c.in_ok-read_counted.ensures.bytes.0 in
    ended (end_byte c.args.end) _ _ _ c.loop-len.len c.loop-len.name.items c.loop-len.invariant.far (get_or buf 0 0) read
    (c.if-read-byte.true ∙ c.byte.ensures)
