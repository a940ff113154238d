use Rattle.dvg_survey.proofs.OwnExtents.{Boxed}
use Rattle.dvg_survey.proofs.extents.shapes_extent.Given as goal

abbrev pub invariant-loop-entry : goal.invariant-loop-entry
invariant-loop-entry g l = Boxed l.rom l.fn.cert.entries l.entry-index l.lit
