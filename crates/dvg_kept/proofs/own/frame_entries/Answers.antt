use Rattle.std.proofs.Common.{rules}
use Rattle.dvg_kept.proofs.OwnList.{made_list}
use Rattle.dvg_kept.proofs.own.frame_entries.Goals as goal

pub own_marks-requires-clause-entries : goal.own_marks-requires-clause-entries
own_marks-requires-clause-entries c = (c.args.rom.now.map, c.requires.certificate)

pub returns : goal.returns
returns c =
    let made = made_list c.args.rom.now c.args.entries.now c.requires c.args.frame.now c.in_ok-marks.marks c.in_ok-marks.ensures in
    search rules
