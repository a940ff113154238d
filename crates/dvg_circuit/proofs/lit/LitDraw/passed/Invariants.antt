use Rattle.dvg_circuit.proofs.Common.{◌≡◌, counters_after, passed}
use Rattle.dvg_circuit.proofs.lit.LitDraw.passed.Given as goal

abbrev pub invariant-loop-count : goal.invariant-loop-count
invariant-loop-count l =
    (l.at ≡ counters_after l.self.draw l.self.from l.count) × (l.way.items ≡ passed l.self.draw l.self.from l.count)
