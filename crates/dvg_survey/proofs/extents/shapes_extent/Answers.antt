use Rattle.dvg_survey.proofs.Common.{◌≡◌, ◌<◌, length, arith, ap, subst}
use Rattle.dvg_check.proofs.Listed.{no_entry}
use Rattle.dvg_survey.proofs.OwnExtents.{Boxed, one_more, is_extent}
use Rattle.dvg_survey.proofs.extents.shapes_extent.Goals as goal

pub loop-entry-preserved : goal.loop-entry-preserved
loop-entry-preserved g c =
    let same : c.entries-entry-items.result.now ≡ c.args.cert.now.entries = c.entries-entry-items.ensures.value in
    let here : c.loop-entry.entry-index < length c.args.cert.now.entries = omega (arith, c.loop-entry-test.true, ap length same) in
    one_more c.args.rom.now c.args.cert.now.entries c.loop-entry.entry-index no_entry c.loop-entry.lit c.own_extent.result
    c.joined-lit.result here (rw (c.requires, same) at c.own_extent.ensures)
    (record { first = c.joined-lit.ensures.first; second = c.joined-lit.ensures.second; least = c.joined-lit.ensures.least })
    c.loop-entry.invariant

pub returns : goal.returns
returns g c =
    let list = c.args.cert.now.entries in
    is_extent c.args.rom.now list (c.args.cert.now.map, c.entries-entry-items.ensures.certificate) c.loop-entry.lit
    (subst (λ n. Boxed c.args.rom.now list n c.loop-entry.lit)
    (omega (arith, c.loop-entry-test.false, c.loop-entry.auto.entry-index-end, ap length c.entries-entry-items.ensures.value))
    c.loop-entry.invariant)
