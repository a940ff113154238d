use Rattle.dvg_text.proofs.Common.{◌++◌, [], sym, append-nil, append_assoc, arith, on_err_weaker, ap, List, ℕ}
use Rattle.dvg_text.proofs.Spelled.{sent_err, put_in_part, put_on, held_sent_in_part}
use Rattle.dvg_text.proofs.lines.write_lines.Goals as goal
use Rattle.dvg_text.proofs.Common.{common_steps}

pub returns-in_err-put-2-clause-prefix : goal.returns-in_err-put-2-clause-prefix
returns-in_err-put-2-clause-prefix g c =
    grind (
      arith,
      sent_err,
      (put_in_part (g.W.Write.contents c.args.out.now) (g.W.Write.contents c.put.new.out)
          (g.W.Write.contents c.put-2.new.out) c.put.new.held.items c.args.first.now c.args.second.now c.args.third.now),
      (append_assoc c.args.first.now c.args.second.now c.args.third.now),
    )

pub returns-in_err-put-3-clause-prefix : goal.returns-in_err-put-3-clause-prefix
returns-in_err-put-3-clause-prefix g c =
    let two = put_on (g.W.Write.contents c.args.out.now) (g.W.Write.contents c.put.new.out) (g.W.Write.contents c.put-2.new.out)
    c.put.new.held.items c.args.first.now c.args.second.now c.put-2.new.held.items (rw c.new-held.ensures at c.in_ok-put.ensures.ok)
    c.in_ok-put-2.ensures.ok in
    let whole = ap (λ (t : List ℕ). (c.args.first.now ++ c.args.second.now) ++ t) (sym (append-nil c.args.third.now)) in
    sent_err c.from_residual-in_err-put-3.result
    (put_in_part (g.W.Write.contents c.args.out.now) (g.W.Write.contents c.put-2.new.out) (g.W.Write.contents c.put-3.new.out)
    c.put-2.new.held.items (c.args.first.now ++ c.args.second.now) c.args.third.now [] _ two whole c.in_err-put-3.ensures.prefix)

pub returns-clause-prefix : goal.returns-clause-prefix
returns-clause-prefix g c =
    let two = put_on (g.W.Write.contents c.args.out.now) (g.W.Write.contents c.put.new.out) (g.W.Write.contents c.put-2.new.out)
    c.put.new.held.items c.args.first.now c.args.second.now c.put-2.new.held.items (rw c.new-held.ensures at c.in_ok-put.ensures.ok)
    c.in_ok-put-2.ensures.ok in
    let three = put_on (g.W.Write.contents c.args.out.now) (g.W.Write.contents c.put-2.new.out) (g.W.Write.contents c.put-3.new.out)
    c.put-2.new.held.items (c.args.first.now ++ c.args.second.now) c.args.third.now c.put-3.new.held.items two
    c.in_ok-put-3.ensures.ok in
    on_err_weaker c.write_bytes.result
    (held_sent_in_part (g.W.Write.contents c.args.out.now) (g.W.Write.contents c.put-3.new.out)
    (g.W.Write.contents c.write_bytes.new.out) c.as_slice.result.now _ (rw c.as_slice.ensures.value three)) c.write_bytes.ensures.prefix

pub returns-in_err-put-clause-prefix : goal.returns-in_err-put-clause-prefix
returns-in_err-put-clause-prefix g c = grind (arith, common_steps)

pub returns-clause-ok : goal.returns-clause-ok
returns-clause-ok g c = grind (arith, common_steps)
