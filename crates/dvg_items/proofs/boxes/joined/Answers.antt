use Rattle.std.proofs.Common.{rules, w64}
use Rattle.std.proofs.lemmas.Int.{to_z-of_z}
use mir.Val.{SFits}
use Rattle.dvg_items.proofs.LeastBoxes.{joined_is}
use Rattle.dvg_items.proofs.boxes.joined.Goals as goal

pub returns-in-Span-Span : goal.returns-in-Span-Span
returns-in-Span-Span c =
    let a0 : SFits w64 c.in-Span-Span.x_min = search rules in
    let a1 : SFits w64 c.in-Span-Span.x_max = search rules in
    let b0 : SFits w64 c.in-Span-Span.y_min = search rules in
    let b1 : SFits w64 c.in-Span-Span.y_max = search rules in
    let c0 : SFits w64 c.in-Span-Span.left = search rules in
    let c1 : SFits w64 c.in-Span-Span.right = search rules in
    let d0 : SFits w64 c.in-Span-Span.bottom = search rules in
    let d1 : SFits w64 c.in-Span-Span.top = search rules in
    let x0 : SFits w64 c.min.result = search rules in
    let x1 : SFits w64 c.max.result = search rules in
    let y0 : SFits w64 c.min-in-Span-Span.result = search rules in
    let y1 : SFits w64 c.max-in-Span-Span.result = search rules in
    let h = joined_is c.args.first.now c.args.second.now _ c.in-Span-Span.x_min c.in-Span-Span.x_max c.in-Span-Span.y_min
    c.in-Span-Span.y_max c.in-Span-Span.left c.in-Span-Span.right c.in-Span-Span.bottom c.in-Span-Span.top c.min.result c.max.result
    c.min-in-Span-Span.result c.max-in-Span-Span.result c.in-Span-Span.is-0 c.in-Span-Span.is-1 (simp to_z-of_z)
    (record { lower = simp to_z-of_z at c.min.ensures.value; upper = simp to_z-of_z at c.max.ensures.value })
    (record { lower = simp to_z-of_z at c.min-in-Span-Span.ensures.value; upper = simp to_z-of_z at c.max-in-Span-Span.ensures.value }) in
    record { first = h.first; second = h.second; least = h.least }
