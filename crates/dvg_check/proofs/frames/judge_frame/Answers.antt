use Rattle.dvg_check.proofs.Common.{frame_number, FrameKeeps, frame_context, frame_word}
use Rattle.dvg_check.specs.declared.fault.FrameWhy.TheVariants as frame
use Rattle.dvg_check.proofs.Broken.{broken}
use Rattle.dvg_check.proofs.Faults.{rule_of, rule_of-number}
use Rattle.dvg_check.proofs.FrameWalk.{good_frame}
use Rattle.dvg_check.proofs.frames.judge_frame.Goals as goal

pub returns-in-Ok-clause-ok : goal.returns-in-Ok-clause-ok
returns-in-Ok-clause-ok g c =
    good_frame c.args.window.now c.args.machine c.args.frame.now (g.E.Entries.list c.args.entries.now) c.args.budget c.in-Ok.end
    (rw c.new.ensures at c.in-Ok.ensures.ok)

pub frame_cause-requires-clause-broken : goal.frame_cause-requires-clause-broken
frame_cause-requires-clause-broken g c =
    broken frame_number rule_of rule_of-number (frame_context c.args.machine (g.E.Entries.list c.args.entries.now))
    (frame_word c.args.machine c.args.frame.now) 0
    frame.Unmapped frame.Odd (FrameKeeps c.args.window.now c.args.budget) c.in-Err.fault.at c.in-Err.fault.why c.in-Err.fault.before
    c.in-Err.fault.found
    (rw c.new.ensures at c.in-Err.ensures.err)
