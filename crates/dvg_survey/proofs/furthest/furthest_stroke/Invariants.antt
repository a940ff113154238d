use Rattle.dvg_survey.proofs.Common.{length}
use Rattle.dvg_survey.proofs.Reaching.{Down}
use Rattle.dvg_survey.proofs.furthest.furthest_stroke.Given as goal

abbrev pub invariant-loop : goal.invariant-loop
invariant-loop g l = Down l.rom l.cert.entries l.edge l.entry (length l.cert.entries) l.last l.counter
