use Rattle.dvg_spelling.proofs.Common.{◌≡◌, numbers_below}
use Rattle.dvg_spelling.specs.Each.{of_each}
use Rattle.dvg_spelling.proofs.rules.all_rules.Given as goal

abbrev pub invariant-loop-number : goal.invariant-loop-number
invariant-loop-number l = of_each (λ rule. rule.number) l.rules.items ≡ numbers_below l.number
