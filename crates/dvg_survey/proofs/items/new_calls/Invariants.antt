use Rattle.dvg_survey.proofs.Common.{◌-◌, ◌+◌, ADDRESS_END}
use Rattle.dvg_survey.proofs.Visiting.{Goes}
use Rattle.dvg_survey.proofs.items.new_calls.Given as goal

abbrev pub invariant-loop-format : goal.invariant-loop-format
invariant-loop-format g l = Goes l.rom (g.E.Entries.list l.entries) l.entry l.fn.visited l.visited l.calls.items l.at l.scale

abbrev pub decreases-loop-format : goal.decreases-loop-format
decreases-loop-format g l = ADDRESS_END + 2 - l.at
