use Rattle.dvg_recipe.proofs.Common.{◌+◌, subst, arith}
use Rattle.dvg_recipe.specs.Recipes.{Jump}
use Rattle.dvg_recipe.specs.Private.Indices.{JumpLeads, PartLeads, IsPast}
use Rattle.dvg_recipe.proofs.PastParts.{past_jumps_next, past_from}
use Rattle.dvg_recipe.proofs.belonging.past_jumps.Goals as goal

pub loop-jump-preserved : goal.loop-jump-preserved
loop-jump-preserved c =
    let items = c.args.places.now in
    past_jumps_next c.args.jumps.now items c.loop-jump.jump-index (c.loop-jump.jump-index + 1) c.jump-item.result c.args.here.items
    c.loop-jump.here.items c.in_ok-there.there.items c.past_part.new.here.items (omega arith) c.loop-jump-test.true
    c.loop-jump.invariant
    (subst (λ (jump : Jump). IsPast (JumpLeads jump.area.first items) c.loop-jump.here.items c.in_ok-there.there.items) c.jump-item.is
    (past_from (JumpLeads c.jump-item.result.area.first items) c.deref.result.now c.loop-jump.here.items
    c.in_ok-there.there.items c.deref.ensures.value c.in_ok-there.ensures))
    (subst (λ (jump : Jump). IsPast (PartLeads jump.body items) c.in_ok-there.there.items c.past_part.new.here.items) c.jump-item.is
    c.in_ok-past_part.ensures)
