use Rattle.dvg_recipe.proofs.Common.{arith, Contains-get_or}
use Rattle.dvg_recipe.proofs.roots.Roots.past_calls.Goals as goal

pub past_call-requires-clause-near : goal.past_call-requires-clause-near
past_call-requires-clause-near c =
    c.requires.near _ (Contains-get_or c.args.targets.now c.loop-to.to-index _ (omega (arith, c.loop-to-test.true)))
