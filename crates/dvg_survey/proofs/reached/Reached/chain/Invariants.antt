use Rattle.dvg_survey.proofs.Tracing.{Traced, steps_left}
use Rattle.dvg_survey.proofs.reached.Reached.chain.Given as goal

abbrev pub invariant-loop-next : goal.invariant-loop-next
invariant-loop-next l = Traced l.self l.last l.next l.chain.items

abbrev pub decreases-loop-next : goal.decreases-loop-next
decreases-loop-next l = steps_left l.next
