use Rattle.dvg_check.proofs.Common.{◌-◌, ◌+◌, ADDRESS_END}
use Rattle.dvg_check.proofs.Loop.{Going}
use Rattle.dvg_check.proofs.walk.end_if_kept.Given as goal

abbrev pub invariant-items : goal.invariant-items
invariant-items g l =
    Going _ g.R.Rules.order g.R.Rules.UNMAPPED g.R.Rules.ODD (g.R.Rules.keeps l.rules) g.R.Rules.KIND (g.E.Entries.list l.entries)
    (g.R.Rules.scale l.rules) (g.C.Cells.words l.cells) l.first l.callees l.cursor

abbrev pub decreases-items : goal.decreases-items
decreases-items g l = ADDRESS_END + 2 - l.cursor.at
