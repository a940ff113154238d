use Rattle.std.specs.Prelude.{◌+◌, ◌-◌}
use Rattle.dvg_words.specs.declared.map.TheConstants.{ADDRESS_END}
use Rattle.dvg_kept.proofs.Calls.{Going}
use Rattle.dvg_kept.proofs.marks.MarkedEntries.mark_calls.Given as goal

abbrev pub invariant-loop-format : goal.invariant-loop-format
invariant-loop-format g l = Going (g.F.Fetch.words l.words) l.entries l.leaves l.fn.first l.fn.self l.here l.self

abbrev pub decreases-loop-format : goal.decreases-loop-format
decreases-loop-format g l = ADDRESS_END + 2 - l.here.at
