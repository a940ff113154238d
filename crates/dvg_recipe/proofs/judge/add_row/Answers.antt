use Rattle.dvg_recipe.proofs.Common.{arith, subst}
use Rattle.dvg_recipe.specs.Recipes.{Piece}
use Rattle.dvg_recipe.specs.Private.Judging.{IsTaken}
use Rattle.dvg_recipe.specs.Private.Hulls.{LeadOn}
use Rattle.dvg_recipe.proofs.PastParts.{if_ok_on}
use Rattle.dvg_recipe.proofs.Onward.{row_one}
use Rattle.dvg_recipe.proofs.judge.add_row.Goals as goal

pub returns-then-row-eq1-clause-carries : goal.returns-then-row-eq1-clause-carries
returns-then-row-eq1-clause-carries g c =
    let w = c.args.asked.now.window in
    let list = g.E.Entries.list c.args.entries.now in
    let budget = c.args.asked.now.budget in
    let next = c.add_piece.new.next.items in
    if_ok_on c.add_piece.result _ _
    (λ u h fine. let x = h fine in (
      x.0,
      row_one w list budget c.args.row.now c.index-row-0.result c.args.here.now next (omega (arith, c.if-row-eq1.true))
          (subst (λ (p : Piece). LeadOn w list budget (IsTaken p.kind) c.args.here.now next) c.index-row-0.is x.1),
    ))
    c.add_piece.ensures.leads
