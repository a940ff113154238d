use Rattle.std.specs.Prelude.{◌+◌, ◌-◌, ◌*◌, length}
use Rattle.dvg_kept.specs.Private.Marks.{IsMarking}
use Rattle.dvg_kept.proofs.own.own_marks.Given as goal

abbrev pub invariant-loop-position : goal.invariant-loop-position
invariant-loop-position l = IsMarking l.rom l.fn.frame l.entries l.marks

abbrev pub decreases-loop-position : goal.decreases-loop-position
decreases-loop-position l = length l.marks.waiting + 2 * (length l.marks.marked - l.marks.count)
