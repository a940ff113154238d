use Rattle.dvg_recipe.proofs.Common.{◌≡◌, take, false}
use Rattle.dvg_recipe.specs.Private.Indices.{IsJoined}
use Rattle.dvg_recipe.proofs.indices.add_all.Given as goal

abbrev pub invariant-loop-index : goal.invariant-loop-index
invariant-loop-index l =
    IsJoined l.fn.set.items (take l.index-index l.more) l.set.items × (l.grown ≡ false → l.set.items ≡ l.fn.set.items)
