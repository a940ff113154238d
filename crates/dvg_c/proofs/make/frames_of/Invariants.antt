use Rattle.dvg_c.proofs.Common.{of_each}
use Rattle.dvg_c.proofs.Cutting.{Cut}
use Rattle.dvg_c.proofs.make.frames_of.Given as goal

abbrev pub invariant-frames : goal.invariant-frames
invariant-frames l = Cut l.bytes l.lengths (of_each (λ reader. reader.device.now) l.readers.items) l.rest l.i
