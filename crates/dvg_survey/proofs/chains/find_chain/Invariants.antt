use Rattle.dvg_survey.proofs.Complete.{Comes}
use Rattle.dvg_survey.proofs.chains.find_chain.Given as goal

abbrev pub invariant-loop-next : goal.invariant-loop-next
invariant-loop-next g l = Comes l.rom l.frame l.cert.entries l.goal l.reached l.visited l.next
