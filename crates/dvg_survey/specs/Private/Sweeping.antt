-- The entries from which calls lead to a shape that lights outside the window, found sweep by sweep.
use Rattle.std.specs.Prelude.{◌≡◌, ◌≤◌, Bool, true, false, length, List, Option, Some, None, Contains, ◌⊎◌}
use Rattle.dvg_words.specs.Values.{Window}
use Rattle.dvg_words.specs.Memory.{Rom, rom_word}
use Rattle.dvg_words.specs.Decoding.{cell_at}
use Rattle.dvg_words.specs.declared.instruction.Cell.TheVariants.{Holds}
use Rattle.dvg_cert.specs.declared.entry.Entry.{Entry}
use Rattle.dvg_items.specs.declared.item.Item.{Item}
use Rattle.dvg_items.specs.declared.item.Kind.TheVariants.{Shape}
use Rattle.dvg_items.specs.Items.{LeadsTo}
use Rattle.dvg_items.specs.Known.{shape_context}
use Rattle.dvg_items.specs.Lit.{LitInWindow}
use Rattle.dvg_items.specs.Seen.{seen_at}
use Rattle.dvg_items.specs.declared.seen.Seen.{Seen}
use Rattle.dvg_survey.specs.Calls.{Call}
use Rattle.dvg_survey.specs.Chains.{LeadsOn}
use Rattle.dvg_survey.specs.Places.{ShapeKeepsWindow, ShapesKeepWindow}
use Rattle.dvg_survey.specs.Private.KeyedWords.{is_marked}

-- whether an entry is marked, by its address and key
abbrev pub is_broken : List Bool → Entry → Bool
is_broken marks e = is_marked marks (e.addr, e.key)

-- if there is an entry, it is not marked
abbrev pub IsUnbroken : List Bool → Option Entry → Type 0
IsUnbroken marks None = Unit {0}
IsUnbroken marks (Some f) = is_broken marks f ≡ false

-- an item keeps rule 25, and calls no entry that is marked
abbrev pub IsCleanItem : Window → List Bool → Seen → Type 0
IsCleanItem w marks v = LitInWindow w v.extent v.place × IsUnbroken marks v.callee

-- so does each item of an entry's shape
abbrev pub IsClean : Window → Rom → List Entry → List Bool → Entry → Type 0
IsClean w rom list marks e =
    (earlier : List Item) (i : Item) → LeadsTo Shape (rom_word rom) e.addr earlier i.at
    → cell_at (rom_word rom) i.at ≡ Holds i.format i.instr
    → IsCleanItem w marks (seen_at (shape_context rom.machine list e) earlier i)

-- an item of the entry's shape does not
pub record IsFaulty (w : Window) (rom : Rom) (list : List Entry) (marks : List Bool) (e : Entry) : Type 0 where
  pub earlier : List Item
  pub item : Item
  pub leads : LeadsTo Shape (rom_word rom) e.addr earlier item.at
  pub stands : cell_at (rom_word rom) item.at ≡ Holds item.format item.instr
  pub faulty : IsCleanItem w marks (seen_at (shape_context rom.machine list e) earlier item) → ⊥

-- calls lead from the entry to a shape that breaks rule 25
pub record Breaks (w : Window) (rom : Rom) (list : List Entry) (e : Entry) : Type 0 where
  pub calls : List Call
  pub goal : Entry
  pub leads : LeadsOn rom list e calls goal
  pub breaks : ShapeKeepsWindow w rom list goal → ⊥

-- so is it for each entry of the list that is marked
abbrev pub AllBreak : Window → Rom → List Entry → List Bool → Type 0
AllBreak w rom list marks = (e : Entry) → Contains list e → is_broken marks e ≡ true → Breaks w rom list e

-- a sweep over these entries leaves out those that are not clean, and marks them
pub record IsSwept (w : Window) (rom : Rom) (list swept left : List Entry) (old new : List Bool) : Type 0 where
  pub broken : AllBreak w rom list new
  pub still : (e : Entry) → is_broken old e ≡ true → is_broken new e ≡ true
  pub each : (e : Entry) → Contains swept e → Contains left e ⊎ (is_broken new e ≡ true)
  pub from : (e : Entry) → Contains left e → Contains swept e
  pub few : length left ≤ length swept
  pub clean : length left ≡ length swept → (e : Entry) → Contains swept e → IsClean w rom list new e

-- the marks tell of each entry of the list
abbrev pub TellsBroken : Window → Rom → List Entry → List Bool → Type 0
TellsBroken w rom list marks =
    (e : Entry) → Contains list e
    → (is_broken marks e ≡ false → ShapesKeepWindow w rom list e) × (is_broken marks e ≡ true → ShapesKeepWindow w rom list e → ⊥)
