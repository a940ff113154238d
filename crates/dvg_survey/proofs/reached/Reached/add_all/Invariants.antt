use Rattle.dvg_survey.proofs.Common.{◌≡◌, take, reach_all}
use Rattle.dvg_survey.proofs.reached.Reached.add_all.Given as goal

abbrev pub invariant-loop-call : goal.invariant-loop-call
invariant-loop-call l = l.self ≡ reach_all l.fn.self l.from (take l.call-index l.calls)
