use Rattle.dvg_make.proofs.Common.{◌-◌, IsKey, ArePartial}
use Rattle.dvg_make.proofs.making.Making.marks.Given as goal

abbrev pub invariant-loop-format : goal.invariant-loop-format
invariant-loop-format l =
    record {
      partials : ArePartial l.rom l.self.done l.marks.items;
      scale : IsKey l.scale;
    }

abbrev pub decreases-loop-format : goal.decreases-loop-format
decreases-loop-format l = 5000 - l.at
