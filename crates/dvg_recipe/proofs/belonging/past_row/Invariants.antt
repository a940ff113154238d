use Rattle.dvg_recipe.proofs.Common.{take}
use Rattle.dvg_recipe.specs.Private.Indices.{IsPast, RowLeads}
use Rattle.dvg_recipe.proofs.belonging.past_row.Given as goal

abbrev pub invariant-loop-piece : goal.invariant-loop-piece
invariant-loop-piece l = IsPast (RowLeads (take l.piece-index l.row) l.places) l.initial.here.items l.here.items
