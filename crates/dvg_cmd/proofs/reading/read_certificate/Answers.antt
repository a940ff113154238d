use Rattle.dvg_cmd.proofs.Common.{length-append, ◌++◌, arith, take, Consumes-trans, common_steps, rules}
use Rattle.dvg_cmd.proofs.Pieces.{fed_on, fed_refused}
use Rattle.dvg_cmd.proofs.reading.read_certificate.Goals as goal

pub returns-in-Err-clause-answer : goal.returns-in-Err-clause-answer
returns-in-Err-clause-answer g c = grind (arith, rules, common_steps, fed_refused)

pub feeding-smaller : goal.feeding-smaller
feeding-smaller g c = grind (arith, rules, common_steps, fed_on, length-append)

pub feeding-preserved : goal.feeding-preserved
feeding-preserved g c =
    let before = c.feeding.invariant.text in
    let piece = take c.in_ok-len.len c.fill.new.buf in
    let fed = fed_on c.short_text.ensures before.0 piece c.feeding.reader _ _ before.1 c.in-Ok.ensures in
    record {
      piece = grind (arith, common_steps);
      text = (
        before.0 ++ piece,
        fed.0,
        Consumes-trans _ _ _ before.0 piece before.2 c.in_ok-len.ensures.bytes,
        fed.1,
        λ lt. grind (arith, common_steps),
      );
      counts = grind (arith, common_steps);
    }
