use Rattle.dvg_text.proofs.Common.{◌≡◌, ◌+◌, ◌-◌, ◌++◌, ℕ, List, take, drop, arith, append_assoc, take-add, common_steps}
use Rattle.dvg_text.proofs.Spelled.{sent_err, put_in_part, put_on}
use Rattle.dvg_text.proofs.lines.put.Goals as goal

pub returns-in_err-send_lines-clause-prefix : goal.returns-in_err-send_lines-clause-prefix
returns-in_err-send_lines-clause-prefix g c =
    let n : ℕ = 4096 - c.len-in-putting.result in
    let rest : List ℕ = drop c.putting.at c.args.text.now in
    let put : c.push_bytes.new.buffer.items ≡ c.putting.held.items ++ take n rest = grind (arith, common_steps) in
    let whole : c.args.held.now.items ++ c.args.text.now
    ≡ (c.args.held.now.items ++ take c.putting.at c.args.text.now) ++ (take n rest ++ drop n rest) = grind (arith, common_steps) in
    sent_err c.from_residual.result
    (put_in_part (g.W.Write.contents c.args.out.now) (g.W.Write.contents c.putting.out) (g.W.Write.contents c.send_lines.new.out)
    c.putting.held.items _ (take n rest) (drop n rest) _ c.putting.invariant.held whole (rw put at c.in_err-send_lines.ensures.prefix))

pub putting-preserved : goal.putting-preserved
putting-preserved g c =
    let n : ℕ = 4096 - c.len-in-putting.result in
    let more : List ℕ = take n (drop c.putting.at c.args.text.now) in
    let put : c.push_bytes.new.buffer.items ≡ c.putting.held.items ++ more = grind (arith, common_steps) in
    let on = put_on (g.W.Write.contents c.args.out.now) (g.W.Write.contents c.putting.out) (g.W.Write.contents c.send_lines.new.out)
    c.putting.held.items _ more c.send_lines.new.held.items c.putting.invariant.held (rw put at c.in_ok-send_lines.ensures.ok) in
    let text : (c.args.held.now.items ++ take c.putting.at c.args.text.now) ++ more
    ≡ c.args.held.now.items ++ take (c.putting.at + n) c.args.text.now = grind (arith, append_assoc, take-add) in
    record {
      within = grind (arith, common_steps);
      held = rw text at on;
      counts = grind (arith, common_steps);
      fits = λ few. grind (arith, common_steps);
    }
