use Rattle.dvg_items.proofs.Common.{rules, sym}
use Rattle.dvg_items.specs.Bounds.{ITEM_REACH}
use Rattle.dvg_items.proofs.Near.{next_further, next_near}
use Rattle.dvg_items.proofs.Reached.{place_more}
use Rattle.dvg_items.proofs.seen.Seen.step.Goals as goal

pub returns-in-Some-clause-sound : goal.returns-in-Some-clause-sound
returns-in-Some-clause-sound c =
    let v = c.args.self.now in
    let goes = sym c.in-Some.ensures in
    let further = next_further c.args.kind v.item c.in-Some.at goes in
    search (
      rules,
      (next_near c.args.kind v.item.at v.item.format v.item.instr c.in-Some.at c.requires.at c.requires.fields goes),
      (place_more ITEM_REACH _ c.in-Some.at v.after.place further c.requires.place_after),
    )
