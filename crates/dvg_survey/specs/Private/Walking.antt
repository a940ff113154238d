-- What a walk over items goes by.
use Rattle.std.specs.Prelude.{List}
use Rattle.dvg_words.specs.declared.machine.Machine.{Machine}
use Rattle.dvg_cert.specs.declared.entry.Entry.{Entry}
use Rattle.dvg_items.specs.Known.{Context}
pub use Rattle.dvg_items.specs.declared.seen_items.WalkContext.{WalkContext}

-- the context of the items that a walk goes over, by the entries of a list
abbrev pub context_of : Machine → List Entry → WalkContext → Context
context_of machine list walk = record { kind = walk.kind; machine = machine; list = list; scale = walk.scale }
