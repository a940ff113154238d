use Rattle.dvg_clocks.proofs.Telling.{Telling}
use Rattle.dvg_clocks.proofs.shapes.ShapeClocks.of_all.Given as goal

abbrev pub invariant-loop-entry : goal.invariant-loop-entry
invariant-loop-entry g l = Telling l.states l.rom l.fn.list l.entry-items l.entry-index l.shapes
