use Rattle.dvg_make.proofs.Common.{◌≡◌, length, ArePartial, IsRightFor}
use Rattle.dvg_make.proofs.making.Making.keep_tails.Given as goal

abbrev pub invariant-loop-mark : goal.invariant-loop-mark
invariant-loop-mark l =
    record {
      right : IsRightFor l.rom l.self;
      same : l.self.done ≡ l.fn.self.done;
      partials : ArePartial l.rom l.self.done l.marks.items;
    }

abbrev pub decreases-loop-mark : goal.decreases-loop-mark
decreases-loop-mark l = length l.marks.items
