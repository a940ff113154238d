use Rattle.dvg_text.proofs.Common.{◌≡◌, refl, done_line, entry_line, ended, EntryLine, DoneLine, IsEntry}
use Rattle.dvg_text.specs.Columns.{IsLaterLine}
use Rattle.dvg_text.proofs.Columns.{allowed_among}
use Rattle.dvg_text.proofs.leaving.later_leaving.Goals as goal

pub returns-then-begins : goal.returns-then-begins
returns-then-begins c =
    let n = c.count.result in
    let text : c.as_slice.result.now ≡ ended (done_line n) =
    rw (c.as_slice.ensures.value, c.push_done.ensures, c.new-allowed.ensures) refl in
    allowed_among (IsLaterLine c.args.map) (done_line n) _ _ (DoneLine n, (c.count.ensures, refl)) (c.leaving.ensures (done_line n) text)

pub returns : goal.returns
returns c =
    let map = c.args.map in
    let e = c.entry.result in
    let is : IsEntry map.rom_first map.rom_last e = rw (c.first.ensures.value, c.last.ensures.value) at c.entry.ensures in
    let text : c.as_slice-2.result.now ≡ ended (entry_line e) =
    rw (c.as_slice-2.ensures.value, c.push_entry.ensures, c.new-allowed.ensures) refl in
    allowed_among (IsLaterLine map) (entry_line e) _ _ (EntryLine e, (is, refl)) (c.leaving-2.ensures (entry_line e) text)
