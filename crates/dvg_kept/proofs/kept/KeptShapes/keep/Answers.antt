use Rattle.std.proofs.Common.{arith, ◌≤◌, ◌+◌, length, sym, subst}
use Rattle.dvg_items.proofs.Listed.{listed_claim}
use Rattle.dvg_make.proofs.Common.{MOST_ENTRIES}
use Rattle.dvg_kept.specs.Kept.{Kept, IsKept}
use Rattle.dvg_make.specs.Merged.{IsMerged}
use Rattle.dvg_kept.proofs.Keeping.{kept_again}
use Rattle.dvg_kept.proofs.kept.KeptShapes.keep.Goals as goal

pub merged-requires : goal.merged-requires
merged-requires c = λ e listed. listed_claim c.args.made.now e (c.args.self.now.rom.map, c.requires.are.certificate) listed

pub invariant_of-self : goal.invariant_of-self
invariant_of-self c =
    let k : Kept = record { rom = c.self.inside.rom; window = c.self.inside.window; list = c.self.inside.entries } in
    let also : IsKept (record { rom = c.self.inside.rom; window = c.self.inside.window; list = c.args.made.now }) =
    subst (λ (x : Kept). IsKept (record { rom = x.rom; window = x.window; list = c.args.made.now })) (sym c.self.view_is) c.requires in
    let few : length c.self.inside.entries + length c.args.made.now ≤ MOST_ENTRIES =
    omega (arith, c.if-len-made-gt-MOST_ENTRIES.false, c.len.ensures) in
    let merged : IsMerged c.self.inside.entries c.args.made.now c.in-Ok.merged = rw c.replace-entries.ensures.value at c.in-Ok.ensures in
    (kept_again k c.self.invariant.0 c.args.made.now also c.in-Ok.merged merged few, c.add.ensures)
