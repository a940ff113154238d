use Rattle.dvg_text.proofs.Common.{Err, refl, arith, Memory, TakesEntry}
use Rattle.dvg_text.proofs.Refusals.{ended_taken, ended_refused}
use Rattle.dvg_text.proofs.taken.take_first_entries.Goals as goal
use Rattle.dvg_text.proofs.Common.{rules}

pub loop-entry-preserved : goal.loop-entry-preserved
loop-entry-preserved c =
    grind (
      arith,
      (ended_taken c.args.map c.args.entries.now.items c.loop-entry.entries.items c.take_entry.new.entries.items
          c.in-Some.entry c.args.bytes.now c.loop-entry.rest.now c.in-Some.after.now c.loop-entry.invariant.1 c.in-Some.ensures.1
          c.in-Ok.ensures.0),
    )

pub returns-in-Err-Memory-clause-takes : goal.returns-in-Err-Memory-clause-takes
returns-in-Err-Memory-clause-takes c =
    let refused : TakesEntry c.args.map c.loop-entry.entries.items c.in-Some.entry c.take_entry.new.entries.items (Err Memory) =
    rw c.in-Err-Memory.field-0-is at c.in-Err-Memory.ensures in (
      refl,
      rw refused.0 (ended_refused c.args.map c.args.entries.now.items c.loop-entry.entries.items c.in-Some.entry c.args.bytes.now
          c.loop-entry.rest.now c.in-Some.after.now c.loop-entry.invariant.1 c.in-Some.ensures.1 refused.1),
    )

pub take_entry-requires-clause-entry : goal.take_entry-requires-clause-entry
take_entry-requires-clause-entry c = search rules
