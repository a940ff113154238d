use Rattle.dvg_recipe.proofs.Common.{subst}
use Rattle.dvg_words.specs.Decoding.{CellFits}
use Rattle.dvg_recipe.proofs.changes.words_act.Goals as goal

pub instr_act-requires : goal.instr_act-requires
instr_act-requires c = record { fits = subst CellFits c.in-Holds.is c.cell_of_words.ensures.fields }
