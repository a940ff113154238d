use Rattle.dvg_clocks.proofs.Common.{◌+◌}
use Rattle.std.specs.Prelude.{◌-◌}
use Rattle.dvg_words.specs.declared.map.TheConstants.{ADDRESS_END}
use Rattle.dvg_clocks.proofs.Walking.{Going}
use Rattle.dvg_clocks.proofs.items.items_clocks.Given as goal

abbrev pub invariant-loop-format : goal.invariant-loop-format
invariant-loop-format g l = Going l.states (g.F.Fetch.words l.words) (g.E.Entries.list l.entries) l.shapes l.first l.limit l.here l.sum

abbrev pub decreases-loop-format : goal.decreases-loop-format
decreases-loop-format g l = ADDRESS_END + 2 - l.here.at
