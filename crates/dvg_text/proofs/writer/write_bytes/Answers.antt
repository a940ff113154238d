use Rattle.dvg_text.proofs.Common.{◌≡◌, ◌-◌, length, take, drop, arith, rules, common_steps, take-add, Appends-trans}
use Rattle.dvg_text.proofs.writer.write_bytes.Goals as goal

pub sending-preserved : goal.sending-preserved
sending-preserved g c =
    let rest : take (length c.args.bytes.now - c.sending.sent) (drop c.sending.sent c.args.bytes.now)
    ≡ drop c.sending.sent c.args.bytes.now = grind (arith, common_steps) in
    let more = rw rest at c.in-Ok.ensures.bytes in
    let grown = Appends-trans _ (g.W.Write.contents c.sending.out) _ (take c.sending.sent c.args.bytes.now) _ c.sending.invariant.bytes
    more in
    record {
      within = search rules;
      bytes = rw (take-add c.sending.sent c.in-Ok.taken c.args.bytes.now) grown;
      counts = grind (arith, common_steps);
      wholes = grind (arith, common_steps);
      last = grind (arith, common_steps);
    }
