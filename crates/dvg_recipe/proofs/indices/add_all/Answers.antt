use Rattle.dvg_recipe.proofs.Common.{◌≡◌, ◌+◌, ◌∙◌, sym, false, List, ℕ, subst, arith, take_all}
use Rattle.std.specs.Prelude.{true}
use Rattle.dvg_recipe.specs.Private.Indices.{IsJoined}
use Rattle.dvg_recipe.proofs.Sets.{joined_next}
use Rattle.dvg_recipe.proofs.indices.add_all.Goals as goal
use Rattle.dvg_recipe.proofs.indices.add_all.Goals.{then-grown, else-grown}

pub loop-index-preserved : goal.loop-index-preserved
loop-index-preserved c = (
  joined_next c.args.set.now.items c.args.more.now c.loop-index.set.items c.add.new.set.items c.loop-index.index-index
      (c.loop-index.index-index + 1) 0 (omega arith) c.loop-index-test.true c.loop-index.invariant.0 c.in_ok-is_new.ensures.joined,
  elim c.if-grown.branch [
    | then-grown w ↦ λ no. absurd (let never : false ≡ true = sym no ∙ w.grown-is ∙ w.if-grown.true in cc never)
    | else-grown w ↦ λ no. c.in_ok-is_new.ensures.same (sym w.grown-is ∙ no) ∙ c.loop-index.invariant.1 w.if-grown.false
  ],
)

pub returns-clause-joined : goal.returns-clause-joined
returns-clause-joined c = subst (λ (l : List ℕ). IsJoined c.args.set.now.items l c.loop-index.set.items)
    (take_all c.loop-index.index-index c.args.more.now c.loop-index-test.false) c.loop-index.invariant.0
