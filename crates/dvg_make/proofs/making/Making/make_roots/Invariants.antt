use Rattle.dvg_make.proofs.Common.{Collected, IsRightFor, take}
use Rattle.dvg_make.proofs.making.Making.make_roots.Given as goal

abbrev pub invariant-loop-addr : goal.invariant-loop-addr
invariant-loop-addr l =
    record {
      right : IsRightFor l.rom l.self;
      collected : Collected l.rom (take l.addr-index l.roots) l.self.done;
    }
