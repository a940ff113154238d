use Rattle.dvg_recipe.proofs.Common.{List, subst}
use Rattle.dvg_recipe.specs.Recipes.{AddsRow}
use Rattle.dvg_recipe.specs.Private.Hulls.{Hull, AreUnder}
use Rattle.dvg_recipe.proofs.PastParts.{if_ok_on}
use Rattle.dvg_recipe.proofs.Onward.{from_as, behind_under}
use Rattle.dvg_recipe.proofs.judge.add_pieces.Goals as goal

pub returns-clause-carries : goal.returns-clause-carries
returns-clause-carries g c =
    let w = c.args.asked.now.window in
    let list = g.E.Entries.list c.args.entries.now in
    let budget = c.args.asked.now.budget in
    let R = AddsRow c.args.row.now in
    let behind = c.in_ok-behind.behind.items in
    let all = c.add_all.new.hulls.items in
    if_ok_on c.add_all.result _ _
    (λ u h fine. let x = c.in_ok-behind.ensures.carries fine in (
      x.0,
      behind_under w list budget R c.args.here.now behind all (subst (λ (l : List Hull). AreUnder l all) c.deref.ensures.value h)
          (from_as w list budget R _ c.args.here.now behind c.in_ok-copy.ensures.items x.1),
    ))
    c.add_all.ensures.added
