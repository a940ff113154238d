-- Where a walk over items stands, and where one item leads it. All of it is this project's own.
use Rattle.std.specs.Prelude.{ℕ, Option, Some, None}
use Rattle.dvg_cert.specs.declared.entry.Key.{Key}
use Rattle.dvg_items.specs.Items.{Kind, next_address}
use Rattle.dvg_items.specs.Known.{Known, start}
use Rattle.dvg_items.specs.Seen.{Seen}
pub use Rattle.dvg_items.specs.declared.cursor.Cursor.{Cursor}
pub use Rattle.dvg_items.specs.declared.cursor.Step.{Step}
pub use Rattle.dvg_items.specs.declared.cursor.Step.TheVariants.{Onward, Last}

-- the cursor at the first item, which stands at this word address
abbrev pub first_cursor : Kind → ℕ → Key → Cursor
first_cursor kind first scale = record { at = first; known = start kind scale }

-- the step to the next item, if there is one
abbrev pub step_to : Option ℕ → Known → Step
step_to None known = Last known
step_to (Some at) known = Onward (record { at = at; known = known })

-- the step past an item, from what the rules see of it
abbrev pub step_past : Kind → Seen → Step
step_past kind v = step_to (next_address kind v.item) v.after
