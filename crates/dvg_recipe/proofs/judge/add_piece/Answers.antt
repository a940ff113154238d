use Rattle.dvg_recipe.proofs.Common.{◌∙◌, sym}
use Rattle.dvg_recipe.proofs.judge.add_piece.Goals as goal

pub returns-clause-leads : goal.returns-clause-leads
returns-clause-leads g c =
    let e = c.in_ok-add_items.ensures in
    λ fine. let end = c.end.ensures fine in (sym e.noted ∙ end.0, e.leads end.1)
