use Rattle.dvg_survey.proofs.Common.{rules, subst, w16, w64, to_z-of_z, SFits, IsBox}
use Rattle.dvg_survey.proofs.Quotients.{box_places, seen_places}
use Rattle.dvg_survey.proofs.places.CallPlaces.of_box.Goals as goal

pub returns-clause-places : goal.returns-clause-places
returns-clause-places c =
    let p : SFits w16 c.x_min.result = search rules in
    let q : SFits w16 c.x_max.result = search rules in
    let r : SFits w16 c.y_min.result = search rules in
    let s : SFits w16 c.y_max.result = search rules in
    let i : SFits w64 c.in-Some.low.x = search rules in
    let j : SFits w64 c.in-Some.high.x = search rules in
    let k : SFits w64 c.in-Some.low.y = search rules in
    let l : SFits w64 c.in-Some.high.y = search rules in
    let a : SFits w64 c.least_place.result = search rules in
    let b : SFits w64 c.greatest_place.result = search rules in
    let d : SFits w64 c.least_place-2.result = search rules in
    let e : SFits w64 c.greatest_place-2.result = search rules in
    λ x y. box_places c.args.window.now c.in-Some.low.x c.in-Some.high.x c.in-Some.low.y c.in-Some.high.y c.least_place.result
    c.greatest_place.result c.least_place-2.result c.greatest_place-2.result
    c.x_min.result c.x_max.result c.y_min.result c.y_max.result c.x_min.ensures c.x_max.ensures c.y_min.ensures c.y_max.ensures
    (simp to_z-of_z at c.least_place.ensures) (simp to_z-of_z at c.greatest_place.ensures) (simp to_z-of_z at c.least_place-2.ensures)
    (simp to_z-of_z at c.greatest_place-2.ensures)
    (subst IsBox c.in-Some.ensures.some c.requires) x y c.between.result c.args.lit.now c.in-Some.ensures.some
    ((simp to_z-of_z at c.between.ensures.places) x y)

pub returns-clause-frame : goal.returns-clause-frame
returns-clause-frame c =
    λ entry v x y budget is call. seen_places c.args.window.now c.between.result c.args.lit.now entry v x y is call
    (returns-clause-places c x y)

pub returns-clause-shape : goal.returns-clause-shape
returns-clause-shape c =
    λ entry owner v x y mode is call. seen_places c.args.window.now c.between.result c.args.lit.now entry v x y is call
    (returns-clause-places c x y)
