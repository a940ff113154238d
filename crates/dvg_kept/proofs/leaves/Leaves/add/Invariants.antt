use Rattle.dvg_kept.specs.Private.Leaves.{AreLeaves}
use Rattle.dvg_kept.proofs.leaves.Leaves.add.Given as goal

abbrev pub invariant-loop-entry : goal.invariant-loop-entry
invariant-loop-entry l = AreLeaves l.rom l.self
