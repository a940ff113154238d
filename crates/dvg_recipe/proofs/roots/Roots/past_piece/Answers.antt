use Rattle.dvg_recipe.proofs.Common.{ℕ, List, subst, Contains}
use Rattle.dvg_recipe.specs.Limits.{PieceFits}
use Rattle.dvg_words.specs.Decoding.{CellFits}
use Rattle.dvg_recipe.proofs.roots.Roots.past_piece.Goals as goal

pub past_calls-requires : goal.past_calls-requires
past_calls-requires c =
    let fits = subst PieceFits c.in-Call.is c.requires.fits in
    record { near = λ to there. fits.1.each to (subst (λ (l : List ℕ). Contains l to) c.deref.ensures.value there) }

pub past_instr-requires : goal.past_instr-requires
past_instr-requires c = record { fits = subst CellFits c.in-Holds.is c.cell_of_words.ensures.fields }
