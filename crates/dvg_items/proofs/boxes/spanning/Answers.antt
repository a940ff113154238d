use Rattle.std.proofs.Common.{rules, w64, to_z, of_z}
use Rattle.std.proofs.lemmas.Int.{to_z-of_z}
use mir.Val.{SFits}
use Rattle.dvg_cert.specs.declared.entry.LitBox.TheVariants.{Span}
use Rattle.dvg_items.proofs.LeastBoxes.{spanning_is}
use Rattle.dvg_items.proofs.boxes.spanning.Goals as goal

pub returns : goal.returns
returns c =
    let px : SFits w64 c.args.p.now.x = search rules in
    let py : SFits w64 c.args.p.now.y = search rules in
    let qx : SFits w64 c.args.q.now.x = search rules in
    let qy : SFits w64 c.args.q.now.y = search rules in
    let x0 : SFits w64 c.min.result = search rules in
    let x1 : SFits w64 c.max.result = search rules in
    let y0 : SFits w64 c.min-2.result = search rules in
    let y1 : SFits w64 c.max-2.result = search rules in
    let box = Span (to_z w64 (of_z w64 c.min.result)) (to_z w64 (of_z w64 c.max.result)) (to_z w64 (of_z w64 c.min-2.result))
    (to_z w64 (of_z w64 c.max-2.result)) in
    let h = spanning_is c.args.p.now c.args.q.now box c.min.result c.max.result c.min-2.result c.max-2.result (simp to_z-of_z)
    (record { lower = simp to_z-of_z at c.min.ensures.value; upper = simp to_z-of_z at c.max.ensures.value })
    (record { lower = simp to_z-of_z at c.min-2.ensures.value; upper = simp to_z-of_z at c.max-2.ensures.value }) in
    record { first = h.first; second = h.second; least = h.least }
