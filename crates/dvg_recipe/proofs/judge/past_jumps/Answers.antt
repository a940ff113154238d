use Rattle.dvg_recipe.proofs.Common.{◌+◌, List, arith, subst, sym, Contains-get_or}
use Rattle.dvg_recipe.specs.Recipes.{Jump, Spells}
use Rattle.dvg_recipe.specs.Private.Hulls.{Hull, LeadOn}
use Rattle.dvg_recipe.specs.Private.Judging.{Carries, IsJump, IsWithin}
use Rattle.dvg_recipe.proofs.Onward.{from_as, jumps_next}
use Rattle.dvg_recipe.proofs.judge.past_jumps.Goals as goal

pub past_part-requires : goal.past_part-requires
past_part-requires g c = record {
  fits = subst (λ (j : Jump). IsWithin j.body) (sym c.jump-item.is)
      (c.requires.fits.each _ (Contains-get_or c.args.jumps.now c.loop-jump.jump-index c.jump-item.result c.loop-jump-test.true));
}

pub loop-jump-preserved : goal.loop-jump-preserved
loop-jump-preserved g c =
    let w = c.args.asked.now.window in
    let list = g.E.Entries.list c.args.entries.now in
    let budget = c.args.asked.now.budget in
    let there = c.in_ok-there.there.items in
    let next = c.in_ok-here.here.items in
    λ fine. let part = c.in_ok-here.ensures.carries fine in
    let on = c.in_ok-there.ensures.leads part.0 in
    let before = c.loop-jump.invariant on.0 in (
      before.0,
      jumps_next w list budget c.args.jumps.now c.loop-jump.jump-index (c.loop-jump.jump-index + 1) c.jump-item.result
          c.args.here.items c.loop-jump.here.items there next (omega arith) c.loop-jump-test.true before.1
          (subst (λ (l : List Hull). LeadOn w list budget IsJump l there) c.deref.ensures.value (on.1 list))
          (subst (λ (j : Jump). Carries w list budget (Spells j.body) there next) c.jump-item.is
          (from_as w list budget _ _ there next c.deref-in-loop-jump.ensures.value part.1)),
    )
