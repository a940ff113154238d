use Rattle.dvg_recipe.proofs.Common.{◌∙◌, sym, ◌<◌, ◌+◌, length, subst, arith}
use Rattle.dvg_recipe.specs.Private.Judging.{IsJump}
use Rattle.dvg_recipe.specs.Private.Hulls.{IsSoundChange}
use Rattle.dvg_recipe.proofs.Doing.{jump_is, still_sound, none_sound}
use Rattle.dvg_recipe.proofs.Leads.{does_so, lead_next, lead_whole}
use Rattle.dvg_recipe.proofs.judge.past_jump.Goals as goal

pub put-requires : goal.put-requires
put-requires c = record { change = subst IsSoundChange (sym c.still.ensures) (still_sound _ c.hull.invariant.scale) }

pub see-requires : goal.see-requires
see-requires c = record { changes = none_sound }

pub loop-hull-preserved : goal.loop-hull-preserved
loop-hull-preserved c =
    let e = c.in_ok-put.ensures in
    let lt : c.loop-hull.hull-index < length c.args.here.now = omega (arith, c.loop-hull-test.true) in (
      λ list fine. lead_next c.args.asked.now.window list c.args.asked.now.budget IsJump c.args.here.now c.loop-hull.hull-index
          (c.loop-hull.hull-index + 1) c.hull-item.result c.still.result c.loop-hull.next.items c.put.new.next.items (omega arith) lt c.hull-item.is
          (c.loop-hull.invariant.0 list (e.fine fine)) e.kept
          (λ k i jump format. rw (← c.hull.view_is) (does_so list _ _ _ k i c.still.ensures (jump_is list _ k i jump format) tt)) (e.keeps fine) (e.added fine),
      c.see.ensures ∙ c.loop-hull.invariant.1,
    )

pub returns : goal.returns
returns c = record {
  leads = λ fine. (
    sym c.loop-hull.invariant.1 ∙ (c.end.ensures fine).0,
    λ list. lead_whole c.args.asked.now.window list c.args.asked.now.budget IsJump c.args.here.now c.loop-hull.next.items
        c.loop-hull.hull-index (omega (arith, c.loop-hull-test.false)) (c.loop-hull.invariant.0 list (c.end.ensures fine).1),
  );
}
