use Rattle.dvg_words.specs.Memory.{frame_word}
use Rattle.dvg_kept.specs.Private.Marks.{AllAskedMarked, Asks, IsNothing, MarksMore, context_of, frame_start}
use Rattle.std.proofs.Common.{length}
use Rattle.dvg_kept.proofs.Closing.{begins}
use Rattle.dvg_kept.proofs.own.called_by_frame.Goals as goal

pub returns : goal.returns
returns c =
    let nothing : IsNothing (length c.args.entries.now) c.in-Ok.marks = rw c.len.ensures at c.in-Ok.ensures in
    let asked : AllAskedMarked (frame_word c.args.rom.now.machine c.args.frame.now) c.args.entries.now frame_start
    c.mark_calls.new.self = rw (c.new-words.ensures, c.machine.ensures) at c.in_ok-mark_calls.ensures.asked in
    let more : MarksMore c.args.entries.now c.args.leaves.now
    (Asks (context_of (frame_word c.args.rom.now.machine c.args.frame.now) c.args.entries.now frame_start)
    (frame_word c.args.rom.now.machine c.args.frame.now) 0) c.in-Ok.marks c.mark_calls.new.self =
    rw (c.new-words.ensures, c.machine.ensures) at c.in_ok-mark_calls.ensures.more in
    begins c.args.rom.now c.args.frame.now c.args.entries.now c.args.leaves.now c.requires.leaves c.in-Ok.marks c.mark_calls.new.self
    nothing more asked
