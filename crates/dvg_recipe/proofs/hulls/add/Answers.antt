use Rattle.std.proofs.lemmas.List.{get_or_default}
use Rattle.dvg_recipe.proofs.Common.{◌∙◌, ap, sym}
use Rattle.dvg_recipe.specs.Private.Hulls.{Hull}
use Rattle.dvg_recipe.proofs.Sounds.{join_kept, join_added, scale_at}
use Rattle.dvg_recipe.proofs.hulls.add.Goals as goal

pub returns-in-Some-clause-kept : goal.returns-in-Some-clause-kept
returns-in-Some-clause-kept c =
    let all = c.args.hulls.now.items in
    let i = c.in-Some.index in
    let old = c.index.result.now in
    let has = scale_at c.deref.result.now all i _ c.args.hull.now c.deref.ensures.value c.hull.view_is c.in-Some.ensures in
    join_kept all i c.joined.result old c.args.hull.now has.within (λ d. get_or_default all i d old has.within ∙ sym c.index.ensures)
    c.joined.ensures

pub returns-in-Some-clause-added : goal.returns-in-Some-clause-added
returns-in-Some-clause-added c =
    let all = c.args.hulls.now.items in
    let i = c.in-Some.index in
    let old = c.index.result.now in
    let has = scale_at c.deref.result.now all i _ c.args.hull.now c.deref.ensures.value c.hull.view_is c.in-Some.ensures in
    join_added all i c.joined.result old c.args.hull.now has.within (λ d. get_or_default all i d old has.within ∙ sym c.index.ensures)
    c.joined.ensures (ap (λ (h : Hull). h.scale) c.index.ensures ∙ has.is old)
