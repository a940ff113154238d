use Rattle.dvg_c.proofs.Common.{Ok, Err}
use Rattle.std.specs.Prelude.{None}
use Rattle.dvg_c.proofs.Counting.{hold, none}
use Rattle.dvg_c.proofs.exports.dvgcheck_frame_alone.Goals as goal

pub returns-in-Ok-clause-verdict : goal.returns-in-Ok-clause-verdict
returns-in-Ok-clause-verdict c =
    let judged = c.timed_verdict-verdict in (
      Ok judged.result.0,
      judged.result.1,
      c.in-Ok.ensures.ok c.args.frame.now judged.result.0 judged.ensures.verdict judged.ensures.told,
      c.timed_answer.ensures.value,
    )

pub returns-in-Ok-clause-clocks : goal.returns-in-Ok-clause-clocks
returns-in-Ok-clause-clocks c =
    let judged = c.timed_verdict-verdict in
    let over = c.in-Ok.ensures.over in
    hold c.args.machine c.args.rom.now _ c.args.frame.now c.timed_answer.result judged.result.0 judged.result.1
    c.timed_answer.ensures.value (rw (over.0, over.1, over.2) at judged.ensures.clocks)

pub returns-in-Err-clause-verdict : goal.returns-in-Err-clause-verdict
returns-in-Err-clause-verdict c = (Err c.in-Err.answer.number, None, c.in-Err.ensures.err, c.in-Err.ensures.alone)

pub returns-in-Err-clause-clocks : goal.returns-in-Err-clause-clocks
returns-in-Err-clause-clocks c = none c.args.machine c.args.rom.now _ c.args.frame.now c.in-Err.answer _ c.in-Err.ensures.alone
