use Rattle.dvg_recipe.proofs.Common.{◌+◌, None, get_or, arith, rules}
use Rattle.dvg_check.proofs.Common.{At, Any, Key}
use Rattle.dvg_clocks.specs.Kept.{clocks_in}
use Rattle.dvg_clocks.specs.declared.clocks.ClockRange.{ClockRange}
use Rattle.dvg_recipe.specs.Private.Clocks.{AreNoMore, IsUnder, most_at, scale_past, taken_past}
use Rattle.dvg_recipe.proofs.MostClocks.{next_scale, scale_below}
use Rattle.dvg_recipe.proofs.Spending.{no_more_on, on_alike, on_ok_then, on_ok_both}
use Rattle.dvg_recipe.proofs.clocks.add_item.Goals as goal

pub loop-scale-preserved : goal.loop-scale-preserved
loop-scale-preserved g c =
    let e = c.in_ok-add_at.ensures in (
      λ s n lt. next_scale (λ m. IsUnder n (get_or c.args.here.now.at m None)
          → IsUnder (taken_past c.args.counting.now.timing.now.states (g.E.Entries.list c.args.counting.now.entries.now)
          (clocks_in c.args.counting.now.shapes.now) c.args.item.now (At m) n)
          (most_at c.add_at.new.next (scale_past c.args.counting.now.timing.now.states (g.E.Entries.list c.args.counting.now.entries.now)
          (clocks_in c.args.counting.now.shapes.now) c.args.item.now (At m)))) c.loop-scale.scale (c.loop-scale.scale + 1) (omega arith)
          (λ under. e.past n under) (λ m less under. e.kept.each _ _ (c.loop-scale.invariant.0 m n less under)) s lt,
      no_more_on _ _ _ c.loop-scale.invariant.1 e.kept,
    )

pub returns-clause-past : goal.returns-clause-past
returns-clause-past g c =
    on_ok_then c.add_at-2.result _ _
    (λ h. on_alike c.args.counting.now.timing.now.states (g.E.Entries.list c.args.counting.now.entries.now)
    (clocks_in c.args.counting.now.shapes.now) c.args.item.now c.args.here.now c.add_at-2.new.next (each h.0 h.1))
    (on_ok_both c.add_at-2.result _ _ c.add_at-2.ensures.past c.add_at-2.ensures.kept)
  where
    each : ((n : ClockRange) → IsUnder n (most_at c.args.here.now Any)
        → IsUnder (taken_past c.args.counting.now.timing.now.states (g.E.Entries.list c.args.counting.now.entries.now)
        (clocks_in c.args.counting.now.shapes.now) c.args.item.now Any n)
        (most_at c.add_at-2.new.next (scale_past c.args.counting.now.timing.now.states (g.E.Entries.list c.args.counting.now.entries.now)
        (clocks_in c.args.counting.now.shapes.now) c.args.item.now Any)))
        → AreNoMore c.loop-scale.next c.add_at-2.new.next
        → (scale : Key) (n : ClockRange) → IsUnder n (most_at c.args.here.now scale)
        → IsUnder (taken_past c.args.counting.now.timing.now.states (g.E.Entries.list c.args.counting.now.entries.now)
        (clocks_in c.args.counting.now.shapes.now) c.args.item.now scale n)
        (most_at c.add_at-2.new.next (scale_past c.args.counting.now.timing.now.states
        (g.E.Entries.list c.args.counting.now.entries.now) (clocks_in c.args.counting.now.shapes.now) c.args.item.now scale))
    each past kept (At s) n under =
        kept.each _ _ (c.loop-scale.invariant.0 s n (scale_below c.args.here.now.at c.loop-scale.scale s n (search rules) under) under)
    each past kept Any n under = past n under

pub returns-clause-kept : goal.returns-clause-kept
returns-clause-kept g c = on_ok_then c.add_at-2.result _ _ (λ kept. no_more_on _ _ _ c.loop-scale.invariant.1 kept) c.add_at-2.ensures.kept
