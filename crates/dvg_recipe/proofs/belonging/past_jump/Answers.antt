use Rattle.dvg_recipe.proofs.Common.{◌+◌, ◌∙◌, get_or, refl, arith}
use Rattle.dvg_recipe.specs.Private.Indices.{JumpLeads}
use Rattle.dvg_recipe.proofs.PastParts.{push_next, skip_next, past_whole}
use Rattle.dvg_recipe.proofs.belonging.past_jump.Goals as goal
use Rattle.dvg_recipe.proofs.belonging.past_jump.Goals.{then-is_jump+in_ok-push, else-is_jump+in_ok-note}

pub loop-index-preserved : goal.loop-index-preserved
loop-index-preserved c =
    let index = get_or c.args.here.now c.loop-index.index-index 0 in
    elim c.if-is_jump.branch [
      | then-is_jump+in_ok-push w ↦
          push_next (JumpLeads c.args.jump.now.area.first c.args.places.now) c.args.here.now c.loop-index.next.items c.loop-index.index-index
          (c.loop-index.index-index + 1) 0 (omega arith) c.loop-index-test.true c.loop-index.invariant
          index (index + 1) c.if-is_jump.next.items refl ((λ i. (w.next-is i).items) ∙ w.in_ok-push.ensures.items)
          (c.is_jump.ensures.yes w.if-is_jump.true) (λ j leads. omega (arith, leads.next))
      | else-is_jump+in_ok-note w ↦
          skip_next (JumpLeads c.args.jump.now.area.first c.args.places.now) c.args.here.now c.loop-index.next.items c.loop-index.index-index
          (c.loop-index.index-index + 1) 0 (omega arith) c.loop-index-test.true c.loop-index.invariant
          index c.if-is_jump.next.items refl (λ i. (w.next-is i).items) (c.is_jump.ensures.no w.if-is_jump.false)
    ]

pub returns : goal.returns
returns c = past_whole (JumpLeads c.args.jump.now.area.first c.args.places.now) c.args.here.now c.loop-index.next.items c.loop-index.index-index
    c.loop-index-test.false c.loop-index.invariant
