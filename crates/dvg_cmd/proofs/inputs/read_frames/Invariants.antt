use Rattle.dvg_cmd.proofs.Common.{of_each}
use Rattle.dvg_cmd.proofs.SeveralFrames.{ReadSoFar}
use Rattle.dvg_cmd.proofs.inputs.read_frames.Given as goal

abbrev pub invariant-loop-frame : goal.invariant-loop-frame
invariant-loop-frame g l =
    ReadSoFar (λ frame. g.R.Read.remaining frame) (λ frame. g.R.CountedRead.failures frame) l.frame-index l.initial.frame-items
    l.frame-items (of_each (λ bytes. bytes.items) l.read.items)
