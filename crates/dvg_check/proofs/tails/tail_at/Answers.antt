use Rattle.dvg_check.proofs.Common.{arith, sym, ◌∙◌, ◌+◌, ◌-◌, ADDRESS_END, Shape, next_near}
use Rattle.dvg_check.proofs.TailSizes.{IsSmall-more}
use Rattle.dvg_check.proofs.TailLaws.{alone, before_some}
use Rattle.dvg_check.proofs.tails.tail_at.Goals as goal

pub after_item-requires-clause-tail : goal.after_item-requires-clause-tail
after_item-requires-clause-tail g c =
    IsSmall-more (ADDRESS_END + 2 - c.in-Some.next) (ADDRESS_END + 2) c.in_ok-kept_at-in-Some.field-0.now (omega arith)
    (c.requires.tails _ c.in_ok-kept_at-in-Some.ensures).small

pub returns-in_ok-kept_at-in-Some : goal.returns-in_ok-kept_at-in-Some
returns-in_ok-kept_at-in-Some g c =
    let h = c.in_ok-first.ensures in
    let e = c.after_item.ensures in
    let goes = sym c.next_address.ensures ∙ c.in-Some.is in
    let near = next_near Shape c.args.item.now.at c.args.item.now.format c.args.item.now.instr c.in-Some.next c.requires.near
    c.requires.fields goes in
    before_some c.args.window.now c.args.rom.now (g.E.Entries.list c.args.entries.now) c.args.key c.args.item.now c.in_ok-first.first
    (rw c.machine.ensures at h.value) (h.stands c.args.rom.now (sym c.machine.ensures) c.requires.there)
    c.in-Some.next c.in_ok-kept_at-in-Some.field-0.now c.after_item.result goes (c.requires.tails _ c.in_ok-kept_at-in-Some.ensures)
    e.value e.item e.tail e.small near

pub returns-in-None : goal.returns-in-None
returns-in-None g c =
    let h = c.in_ok-first.ensures in
    alone c.args.window.now c.args.rom.now (g.E.Entries.list c.args.entries.now) c.args.key c.args.item.now c.in_ok-first.first
    (rw c.machine.ensures at h.value) (h.stands c.args.rom.now (sym c.machine.ensures) c.requires.there) h.small c.requires.near
    (sym c.next_address.ensures ∙ c.in-None.is)
