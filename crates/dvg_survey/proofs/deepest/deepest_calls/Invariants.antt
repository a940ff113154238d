use Rattle.dvg_survey.proofs.Common.{length}
use Rattle.dvg_survey.proofs.Bearing.{Down}
use Rattle.dvg_survey.proofs.deepest.deepest_calls.Given as goal

abbrev pub invariant-loop : goal.invariant-loop
invariant-loop g l = Down l.rom l.cert.entries l.entry (length l.cert.entries) l.deepest.items l.last l.counter
