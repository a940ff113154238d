use Rattle.dvg_circuit.proofs.Common.{◌≡◌, counters_after}
use Rattle.dvg_circuit.proofs.counters.Counters.after.Given as goal

abbrev pub invariant-loop-count : goal.invariant-loop-count
invariant-loop-count l = l.at ≡ counters_after l.draw l.fn.self l.count
