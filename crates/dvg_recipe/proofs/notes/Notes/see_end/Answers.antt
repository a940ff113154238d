use Rattle.dvg_recipe.proofs.Doing.{none_sound}
use Rattle.dvg_recipe.proofs.notes.Notes.see_end.Goals as goal

pub see-requires : goal.see-requires
see-requires c = record { changes = none_sound }
