-- What the rules see of an item. All of it is this project's own.
use Rattle.dvg_words.specs.declared.machine.Machine.{Machine}
use Rattle.std.specs.Prelude.{ℕ, List, Option, Some, None}
use Rattle.dvg_words.specs.declared.instruction.Instr.{Instr}
use Rattle.dvg_cert.specs.declared.entry.Entry.{Entry}
use Rattle.dvg_items.specs.Items.{Item}
use Rattle.dvg_items.specs.Known.{Context, Known, known_past, known_before, scale_before, callee}
use Rattle.dvg_items.specs.Lit.{LitExtent, extent_of}
pub use Rattle.dvg_items.specs.declared.seen.Seen.{Seen}

-- what the rules see of an item that calls this entry: the item, the place before it, what it lights, the entry, and what is known
-- past it
abbrev pub seen_with : Machine → Option Entry → Known → Item → Seen
seen_with machine named before i =
    record {
      item = i;
      place = before.place;
      extent = extent_of machine i.instr before.scale named;
      callee = named;
      after = known_past machine i named before;
    }

-- what the rules see of the item after these
abbrev pub seen_at : Context → List Item → Item → Seen
seen_at c earlier i = seen_with c.machine (callee c earlier i.instr) (known_before c earlier) i

-- what an instruction after these items lights
abbrev pub extent : Context → List Item → Instr → LitExtent
extent c earlier i = extent_of c.machine i (scale_before c earlier) (callee c earlier i)

-- if there is a target, it has an entry
abbrev pub HasCallee : Option ℕ → Option Entry → Type 0
HasCallee None named = Unit {0}
HasCallee (Some to) None = ⊥
HasCallee (Some to) (Some e) = Unit {0}
