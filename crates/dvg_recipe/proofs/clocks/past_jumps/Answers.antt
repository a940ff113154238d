use Rattle.dvg_recipe.proofs.Common.{◌+◌, arith, subst, sym, Contains-get_or}
use Rattle.dvg_clocks.specs.Kept.{clocks_in}
use Rattle.dvg_recipe.specs.Recipes.{Jump, Spells}
use Rattle.dvg_recipe.specs.Private.Judging.{IsWithin}
use Rattle.dvg_recipe.specs.Private.Clocks.{Spend}
use Rattle.dvg_recipe.proofs.Spending.{jumps_next}
use Rattle.dvg_recipe.proofs.clocks.past_jumps.Goals as goal

pub past_part-requires : goal.past_part-requires
past_part-requires g c = record {
  fits = subst (λ (j : Jump). IsWithin j.body) (sym c.jump-item.is)
      (c.requires.fits.each _ (Contains-get_or c.args.jumps.now c.loop-jump.jump-index c.jump-item.result c.loop-jump-test.true));
}

pub loop-jump-preserved : goal.loop-jump-preserved
loop-jump-preserved g c =
    jumps_next c.args.counting.now.timing.now.states (g.E.Entries.list c.args.counting.now.entries.now)
    (clocks_in c.args.counting.now.shapes.now) c.args.jumps.now c.loop-jump.jump-index (c.loop-jump.jump-index + 1)
    c.jump-item.result c.args.here.now c.loop-jump.here c.in_ok-there.there c.in_ok-here.here (omega arith) c.loop-jump-test.true
    c.loop-jump.invariant
    c.in_ok-there.ensures (subst (λ (j : Jump). Spend c.args.counting.now.timing.now.states
    (g.E.Entries.list c.args.counting.now.entries.now) (clocks_in c.args.counting.now.shapes.now) (Spells j.body) c.in_ok-there.there
    c.in_ok-here.here) c.jump-item.is c.in_ok-here.ensures)
