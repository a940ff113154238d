use Rattle.dvg_recipe.proofs.Common.{subst}
use Rattle.dvg_words.specs.Memory.{Rom}
use Rattle.dvg_make.specs.Made.{AllMade}
use Rattle.dvg_recipe.proofs.known_places.made.Goals as goal

pub returns-in-Ok-clause-names : goal.returns-in-Ok-clause-names
returns-in-Ok-clause-names c =
    let e = c.in-Ok.ensures in
    (c.entry_alone.new.maker.list, subst (λ (r : Rom). AllMade r c.entry_alone.new.maker.list) e.rom e.made, e.ok)
