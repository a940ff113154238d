use Rattle.dvg_recipe.proofs.Common.{sym, [], ◌∷◌}
use Rattle.dvg_recipe.proofs.Sets.{joined_insert, joined_as}
use Rattle.dvg_recipe.proofs.indices.add.Goals as goal

pub returns-in_ok-insert-in-Err-clause-joined : goal.returns-in_ok-insert-in-Err-clause-joined
returns-in_ok-insert-in-Err-clause-joined c =
    joined_as c.args.set.now.items (c.args.index ∷ []) _ c.insert.new.self.items (sym c.in_ok-insert-in-Err.ensures.items)
    (joined_insert c.args.set.now.items c.in-Err.place c.args.index)
