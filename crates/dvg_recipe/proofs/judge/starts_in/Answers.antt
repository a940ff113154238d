use Rattle.dvg_recipe.proofs.Common.{arith}
use Rattle.dvg_recipe.proofs.PastParts.{if_ok_on}
use Rattle.dvg_recipe.proofs.Onward.{starts_there}
use Rattle.dvg_recipe.proofs.judge.starts_in.Goals as goal

pub returns : goal.returns
returns c =
    record {
      starts = if_ok_on c.past_jump.result _ _
          (λ here h fine. let x = h fine in (
            x.0,
            λ list. starts_there c.args.asked.now.window list c.args.asked.now.budget c.args.area.now c.first_hull-2.result here.items
                (λ is. omega (arith, is, c.if-area-eq0.false)) c.first_hull-2.ensures.first (x.1 list),
          ))
          c.past_jump.ensures.leads;
    }
