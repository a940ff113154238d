use Rattle.dvg_survey.proofs.Common.{◌-◌, ◌+◌, ADDRESS_END}
use Rattle.dvg_survey.proofs.OwnExtents.{Came}
use Rattle.dvg_survey.proofs.extents.own_extent.Given as goal

abbrev pub invariant-loop-format : goal.invariant-loop-format
invariant-loop-format g l = Came l.rom (g.E.Entries.list l.entries) l.entry l.lit l.here

abbrev pub decreases-loop-format : goal.decreases-loop-format
decreases-loop-format g l = ADDRESS_END + 2 - l.here.at
