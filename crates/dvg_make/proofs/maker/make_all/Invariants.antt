use Rattle.dvg_make.proofs.Common.{AllFramed, IsRightFor, take}
use Rattle.dvg_make.proofs.maker.make_all.Given as goal

abbrev pub invariant-loop-index : goal.invariant-loop-index
invariant-loop-index l =
    record {
      right : IsRightFor l.rom l.making;
      framed : AllFramed l.rom l.roots (take l.index l.frames) l.making.done;
    }
