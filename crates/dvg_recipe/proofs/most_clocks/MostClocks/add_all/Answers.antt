use Rattle.dvg_recipe.proofs.Common.{◌+◌, None, get_or, arith, rules}
use Rattle.dvg_check.proofs.Common.{At, Any, Key}
use Rattle.dvg_clocks.specs.declared.clocks.ClockRange.{ClockRange}
use Rattle.dvg_recipe.specs.Private.Clocks.{IsUnder, most_at}
use Rattle.dvg_recipe.proofs.MostClocks.{next_scale, scale_below}
use Rattle.dvg_recipe.proofs.Spending.{no_more_on}
use Rattle.dvg_recipe.proofs.most_clocks.MostClocks.add_all.Goals as goal

pub loop-scale-preserved : goal.loop-scale-preserved
loop-scale-preserved c =
    let e = c.add_from.ensures in (
      λ s n lt under. next_scale (λ m. IsUnder n (get_or c.args.more.now.at m None) → IsUnder n (get_or c.add_from.new.self.at m None))
          c.loop-scale.scale (c.loop-scale.scale + 1) (omega arith)
          (λ here. e.added n here) (λ m less here. e.kept.each (At m) n (c.loop-scale.invariant.0 m n less here)) s lt under,
      no_more_on _ _ _ c.loop-scale.invariant.1 e.kept,
    )

pub returns-clause-added : goal.returns-clause-added
returns-clause-added c = record { each = each }
  where
    each : (scale : Key) (n : ClockRange) → IsUnder n (most_at c.args.more.now scale) → IsUnder n (most_at c.add_from-2.new.self scale)
    each (At s) n under =
        c.add_from-2.ensures.kept.each (At s) n
        (c.loop-scale.invariant.0 s n (scale_below c.args.more.now.at c.loop-scale.scale s n (search rules) under) under)
    each Any n under = c.add_from-2.ensures.added n under

pub returns-clause-kept : goal.returns-clause-kept
returns-clause-kept c = no_more_on _ _ _ c.loop-scale.invariant.1 c.add_from-2.ensures.kept
