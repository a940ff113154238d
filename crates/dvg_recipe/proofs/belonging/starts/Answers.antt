use Rattle.dvg_recipe.proofs.Common.{◌+◌, List, ℕ, [], ◌∷◌, subst, sym, arith}
use Rattle.dvg_recipe.specs.Private.Indices.{IsJoined}
use Rattle.dvg_recipe.proofs.PastParts.{starts_add, starts_skip}
use Rattle.dvg_recipe.proofs.belonging.starts.Goals as goal
use Rattle.dvg_recipe.proofs.belonging.starts.Goals.{in-Some+in_ok-add, in_default}

pub loop-area-preserved : goal.loop-area-preserved
loop-area-preserved c =
    elim c.match-start_of.branch [
      | in-Some+in_ok-add w ↦
          starts_add c.args.lists.now c.args.places.now c.loop-area.area-index (c.loop-area.area-index + 1) _ c.loop-area.here.items
          (omega arith) c.loop-area-test.true c.loop-area.invariant
          w.in-Some.index c.match-start_of.here.items w.in-Some.ensures.some w.in-Some.ensures.only
          (subst (λ (l : List ℕ). IsJoined c.loop-area.here.items (w.in-Some.index ∷ []) l) (sym (λ i. (w.here-is i).items))
          w.in_ok-add.ensures.joined)
      | in_default w ↦
          starts_skip c.args.lists.now c.args.places.now c.loop-area.area-index (c.loop-area.area-index + 1) _ c.loop-area.here.items
          (omega arith) c.loop-area-test.true c.loop-area.invariant
          c.match-start_of.here.items (λ i. (w.here-is i).items) w.in_default.ensures.none
    ]
