use Rattle.dvg_items.proofs.Common.{rules, [], ◌∷◌, refl}
use Rattle.std.proofs.lemmas.List.Sums.{sum_by-cons}
use Rattle.dvg_items.proofs.laws.words_from_all.Goals as goal

pub returns : goal.returns
returns c k [] = refl
returns c k (i ∷ earlier) = search (rules, (returns c k earlier), sum_by-cons)
