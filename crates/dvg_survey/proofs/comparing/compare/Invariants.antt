use Rattle.dvg_survey.proofs.Common.{take, EachReaches}
use Rattle.dvg_survey.proofs.comparing.compare.Given as goal

abbrev pub invariant-loop-frame : goal.invariant-loop-frame
invariant-loop-frame l = EachReaches l.rom l.other (take l.frame-index l.frames) l.reaching.items
