use Rattle.dvg_make.proofs.Common.{◌-◌}
use Rattle.dvg_make.proofs.Onward.{Walking}
use Rattle.dvg_make.proofs.making.Making.advance.Given as goal

abbrev pub invariant-loop-format : goal.invariant-loop-format
invariant-loop-format l = Walking l.rom l.self.done l.fn.from l.partial

abbrev pub decreases-loop-format : goal.decreases-loop-format
decreases-loop-format l = 5000 - l.partial.cursor.at
