use Rattle.dvg_text.proofs.Refusals.{rom_at_line}
use Rattle.dvg_text.proofs.taken.TakenLines.take_line.Goals as goal

pub returns-in-Some : goal.returns-in-Some
returns-in-Some c =
    rom_at_line c.self.inside.stage c.self.inside.map c.in-Some.map c.self.inside.entries.items c.args.self.now c.args.line.now
    c.in-Rom.is c.self.view_is c.self.invariant c.in-Some.ensures.found.0 c.in-Some.ensures.found.1
