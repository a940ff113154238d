use Rattle.dvg_recipe.proofs.Common.{◌+◌, Some, None, get_or, sym, subst, arith, rules}
use Rattle.dvg_check.proofs.Common.{At, Any, Key}
use Rattle.dvg_clocks.specs.declared.clocks.ClockRange.{ClockRange}
use Rattle.dvg_recipe.specs.Private.Clocks.{IsUnder, most_at}
use Rattle.dvg_recipe.proofs.MostClocks.{joined_old, joined_more, next_scale, scale_below}
use Rattle.dvg_recipe.proofs.most_clocks.MostClocks.greatest.Goals as goal

pub loop-scale-preserved : goal.loop-scale-preserved
loop-scale-preserved c =
    λ s n lt under. next_scale (λ m. IsUnder n (get_or c.args.self.now.at m None) → IsUnder n (Some c.joined-most.result))
    c.loop-scale.scale (c.loop-scale.scale + 1) (omega arith)
    (λ here. subst (λ r. IsUnder n (Some r)) (sym c.joined-most.ensures)
    (joined_old c.at.result c.loop-scale.most n (subst (IsUnder n) (sym c.at.ensures) here)))
    (λ m less here. subst (λ r. IsUnder n (Some r)) (sym c.joined-most.ensures)
    (joined_more c.at.result c.loop-scale.most n (c.loop-scale.invariant m n less here))) s lt under

pub returns : goal.returns
returns c = each
  where
    each : (scale : Key) (n : ClockRange) → IsUnder n (most_at c.args.self.now scale) → IsUnder n (Some c.joined.result)
    each (At s) n under =
        subst (λ r. IsUnder n (Some r)) (sym c.joined.ensures)
        (joined_more c.args.self.now.any c.loop-scale.most n
        (c.loop-scale.invariant s n (scale_below c.args.self.now.at c.loop-scale.scale s n (search rules) under) under))
    each Any n under = subst (λ r. IsUnder n (Some r)) (sym c.joined.ensures) (joined_old c.args.self.now.any c.loop-scale.most n under)
