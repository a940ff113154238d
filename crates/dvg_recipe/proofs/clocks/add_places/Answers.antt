use Rattle.dvg_recipe.proofs.Common.{◌+◌, arith, rules}
use Rattle.dvg_clocks.specs.Kept.{clocks_in}
use Rattle.dvg_recipe.specs.Private.Clocks.{IsLabsAt, TakeOn}
use Rattle.dvg_recipe.proofs.Leads.{scales_next, in_scales}
use Rattle.dvg_recipe.proofs.Spending.{no_more_on, on_more, on_places}
use Rattle.dvg_recipe.proofs.clocks.add_places.Goals as goal

pub loop-scale-preserved : goal.loop-scale-preserved
loop-scale-preserved g c =
    let here = c.args.here.now in
    let more = c.add_place_at.new.next in
    let e = c.in_ok-add_place_at.ensures in (
      scales_next (λ s. TakeOn c.args.counting.now.timing.now.states (g.E.Entries.list c.args.counting.now.entries.now)
          (clocks_in c.args.counting.now.shapes.now) (λ i. IsLabsAt s i.instr) here more) c.args.range.now.scales c.loop-scale.scale
          (c.loop-scale.scale + 1) (omega arith) e.past
          (λ s lt there. on_more c.args.counting.now.timing.now.states (g.E.Entries.list c.args.counting.now.entries.now)
          (clocks_in c.args.counting.now.shapes.now) (λ i. IsLabsAt s i.instr) here c.loop-scale.next more e.kept
          (c.loop-scale.invariant.0 s lt there)),
      no_more_on _ _ _ c.loop-scale.invariant.1 e.kept,
    )

pub returns-clause-past : goal.returns-clause-past
returns-clause-past g c =
    on_places c.args.counting.now.timing.now.states (g.E.Entries.list c.args.counting.now.entries.now)
    (clocks_in c.args.counting.now.shapes.now) c.args.range.now c.args.here.now c.loop-scale.next
    (λ s there. c.loop-scale.invariant.0 s (in_scales c.args.range.now.scales s c.loop-scale.scale (search rules) there) there)
