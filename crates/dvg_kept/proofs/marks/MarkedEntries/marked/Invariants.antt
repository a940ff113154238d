use Rattle.std.proofs.Common.{◌≡◌, take}
use Rattle.dvg_kept.specs.Private.Marks.{picked}
use Rattle.dvg_kept.proofs.marks.MarkedEntries.marked.Given as goal

abbrev pub invariant-loop-position : goal.invariant-loop-position
invariant-loop-position l = l.marked.items ≡ picked (take l.position l.self.marked) l.entries
