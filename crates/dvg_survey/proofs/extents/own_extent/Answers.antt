use Rattle.dvg_survey.proofs.Common.{sym, refl}
use Rattle.dvg_survey.proofs.OwnExtents.{none_came, own_last, came_on, own_to_other}
use Rattle.dvg_survey.proofs.extents.own_extent.Goals as goal

pub loop-format-init : goal.loop-format-init
loop-format-init g c =
    none_came c.args.rom.now (g.E.Entries.list c.args.entries.now) c.args.entry.now c.start-here.result c.start-here.ensures.value
    (c.start-here.ensures.sound c.requires.entry.addr c.requires.entry.key)

pub returns-in-None : goal.returns-in-None
returns-in-None g c =
    own_last c.args.rom.now (g.E.Entries.list c.args.entries.now) c.args.entry.now c.loop-format.lit _ c.loop-format.here
    c.loop-format.invariant (record { at = c.loop-format.here.at; format = c.in-Holds.format; instr = c.in-Holds.instr }) refl
    (sym c.in-Holds.ensures.value) c.pass_item-known.result
    (λ known alike. rw c.machine.ensures at (c.pass_item-known.ensures.passed known alike)) (sym c.in-None.ensures)

pub loop-format-preserved : goal.loop-format-preserved
loop-format-preserved g c =
    came_on c.args.rom.now (g.E.Entries.list c.args.entries.now) c.args.entry.now c.loop-format.lit _ c.loop-format.here
    c.loop-format.invariant (record { at = c.loop-format.here.at; format = c.in-Holds.format; instr = c.in-Holds.instr }) refl
    (sym c.in-Holds.ensures.value) c.pass_item-known.result
    (λ known alike. rw c.machine.ensures at (c.pass_item-known.ensures.passed known alike)) c.in-Some.at (sym c.in-Some.ensures)
    c.in-Holds.ensures.near c.in-Holds.ensures.fields c.pass_item-known.ensures.sound

pub returns-then-begins_shape : goal.returns-then-begins_shape
returns-then-begins_shape g c =
    let told = c.begins_shape.ensures c.if-begins_shape.true in
    own_to_other c.args.rom.now (g.E.Entries.list c.args.entries.now) c.args.entry.now c.loop-format.lit _ c.loop-format.here
    c.loop-format.invariant (record { at = c.loop-format.here.at; format = c.in-Holds.format; instr = c.in-Holds.instr }) refl
    (sym c.in-Holds.ensures.value) c.pass_item-known.result
    (λ known alike. rw c.machine.ensures at (c.pass_item-known.ensures.passed known alike)) c.in-Some.at (sym c.in-Some.ensures)
    told.0 told.1 told.2 told.3 told.4
