use Rattle.dvg_recipe.proofs.Common.{List, take}
use Rattle.dvg_cert.specs.declared.entry.Entry.{Entry}
use Rattle.dvg_recipe.specs.Private.Judging.{AreListStarts, IfFine}
use Rattle.dvg_recipe.proofs.judge.starts.Given as goal

abbrev pub invariant-loop-area : goal.invariant-loop-area
invariant-loop-area l =
    IfFine l.fn.notes l.notes ((list : List Entry)
    → AreListStarts l.asked.window list l.asked.budget (take l.area-index l.lists) l.here.items)
