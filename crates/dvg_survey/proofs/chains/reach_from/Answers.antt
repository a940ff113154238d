use Rattle.dvg_survey.proofs.Common.{shape_context, rom_word}
use Rattle.dvg_survey.proofs.Complete.{called_claims}
use Rattle.dvg_survey.proofs.chains.reach_from.Goals as goal

pub add_all-requires : goal.add_all-requires
add_all-requires g c =
    rw c.deref.ensures.value (called_claims (shape_context c.args.rom.now.machine (g.E.Entries.list c.args.entries.now) c.args.entry.now)
    (rom_word c.args.rom.now) c.args.entry.now.addr c.in_ok-calls.calls.items c.requires.entries c.in_ok-calls.ensures.own)
