use Rattle.dvg_make.proofs.Common.{◌-◌, ◌+◌, length, IsPresent, InProgress, ◌*◌, IsRightFor}
use Rattle.dvg_make.proofs.making.Making.need.Given as goal

abbrev pub invariant-loop-partial : goal.invariant-loop-partial
invariant-loop-partial l =
    record {
      right : IsRightFor l.rom l.self;
      making : InProgress l.rom l.fn.self.done (l.addr, l.fn.key) l.self.done l.stack;
      present : IsPresent l.self.done l.stack l.addr l.fn.key;
    }

abbrev pub decreases-loop-partial : goal.decreases-loop-partial
decreases-loop-partial l = 8192 - (2 * length l.self.done + length l.stack)
