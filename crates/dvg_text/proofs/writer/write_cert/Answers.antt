use Rattle.dvg_text.proofs.Common.{ℕ, List, ◌∙◌, arith, refl, rules, begun_with, text_of, Buffered, on_ok_weaker, on_err_weaker}
use Rattle.dvg_text.proofs.Spelled.{sent_err, first_held, entry_held, done_held, begun_in_part, held_sent, held_sent_in_part}
use Rattle.dvg_text.proofs.writer.write_cert.Goals as goal

pub loop-i-init : goal.loop-i-init
loop-i-init g c = grind (arith, first_held, begun_with)

pub returns-in_err-make_room-clause-prefix : goal.returns-in_err-make_room-clause-prefix
returns-in_err-make_room-clause-prefix g c =
    sent_err c.from_residual.result
    (begun_in_part (g.W.Write.contents c.args.out.now) (g.W.Write.contents c.loop-i.out) (g.W.Write.contents c.make_room.new.out)
    c.args.cert.now.map c.entries-entries.result.now c.args.cert.now.entries c.loop-i.i c.loop-i.text.items
    c.entries-entries.ensures.value c.loop-i.invariant.0 c.in_err-make_room.ensures.prefix)

pub loop-i-preserved : goal.loop-i-preserved
loop-i-preserved g c = (
  entry_held (g.W.Write.contents c.args.out.now) (g.W.Write.contents c.loop-i.out) (g.W.Write.contents c.make_room.new.out)
      c.args.cert.now.map c.entries-entries.result.now c.loop-i.i _ c.loop-i.text.items c.make_room.new.text.items
      c.push_entry.new.text.items
      c.loop-i-test.true c.push_entry.ensures c.loop-i.invariant.0 c.in_ok-make_room.ensures.ok,
  c.in_ok-make_room.ensures.count ∙ c.loop-i.invariant.1,
)

pub returns-in_err-make_room-2-clause-prefix : goal.returns-in_err-make_room-2-clause-prefix
returns-in_err-make_room-2-clause-prefix g c =
    sent_err c.from_residual-in_err-make_room-2.result
    (begun_in_part (g.W.Write.contents c.args.out.now) (g.W.Write.contents c.loop-i.out) (g.W.Write.contents c.make_room-2.new.out)
    c.args.cert.now.map c.entries-entries.result.now c.args.cert.now.entries c.loop-i.i c.loop-i.text.items
    c.entries-entries.ensures.value c.loop-i.invariant.0 c.in_err-make_room-2.ensures.prefix)

pub returns : goal.returns
returns g c =
    let old = g.W.Write.contents c.args.out.now in
    let mid = g.W.Write.contents c.make_room-2.new.out in
    let new = g.W.Write.contents c.write_bytes.new.out in
    let all : List ℕ = c.as_slice.result.now in
    let text : List ℕ = text_of c.args.cert.now.map c.args.cert.now.entries in
    let held : Buffered old mid all text =
    done_held old (g.W.Write.contents c.loop-i.out) mid c.args.cert.now.map c.entries-entries.result.now c.args.cert.now.entries
    c.loop-i.i _ c.loop-i.text.items c.make_room-2.new.text.items all
    c.entries-entries.ensures.value (omega arith) refl (c.as_slice.ensures.value ∙ c.push_done.ensures) c.loop-i.invariant.0
    c.in_ok-make_room-2.ensures.ok in
    record {
      ok = on_ok_weaker c.write_bytes.result (held_sent old mid new all text held) c.write_bytes.ensures.ok;
      prefix = on_err_weaker c.write_bytes.result (held_sent_in_part old mid new all text held) c.write_bytes.ensures.prefix;
      count = search rules;
    }
