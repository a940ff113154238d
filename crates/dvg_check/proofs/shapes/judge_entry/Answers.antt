use Rattle.dvg_check.proofs.Common.{shape_number, ShapeKeeps, shape_context, rom_word}
use Rattle.dvg_check.specs.declared.fault.ShapeWhy.TheVariants as shape
use Rattle.dvg_check.proofs.Broken.{broken}
use Rattle.dvg_check.proofs.Faults.{shape_rule_of, shape_rule_of-number}
use Rattle.dvg_check.proofs.shapes.judge_entry.Goals as goal
use Rattle.dvg_check.proofs.Common.{rules}

pub shape_cause-requires-clause-broken : goal.shape_cause-requires-clause-broken
shape_cause-requires-clause-broken g c =
    broken shape_number shape_rule_of shape_rule_of-number
    (shape_context c.args.rom.now.machine (g.E.Entries.list c.args.entries.now) c.args.entry.now) (rom_word c.args.rom.now)
    c.args.entry.now.addr shape.Unmapped shape.Odd (ShapeKeeps c.args.mode c.args.window.now c.args.entry.now) c.in-Err.fault.at
    c.in-Err.fault.why c.in-Err.fault.before c.in-Err.fault.found
    c.in-Err.ensures.err

pub returns-in-Err-clause-entry : goal.returns-in-Err-clause-entry
returns-in-Err-clause-entry g c = search rules

pub returns-in-Err-clause-cause : goal.returns-in-Err-clause-cause
returns-in-Err-clause-cause g c = search rules
