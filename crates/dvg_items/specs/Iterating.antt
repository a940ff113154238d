-- What the iterators over items give. All of it is this project's own.
use Rattle.std.specs.Prelude.{◌≡◌, ◌<◌, ◌-◌, ℕ, suc, List, Option, Some, None}
use Rattle.dvg_words.specs.Values.{Source}
use Rattle.dvg_words.specs.declared.map.TheConstants.{ADDRESS_END}
use Rattle.dvg_words.specs.declared.instruction.Cell.TheVariants.{Holds}
use Rattle.dvg_words.specs.declared.instruction.Format.{Format}
use Rattle.dvg_words.specs.declared.instruction.Instr.{Instr}
use Rattle.dvg_words.specs.Decoding.{cell_at}
use Rattle.dvg_cert.specs.declared.entry.Entry.{Entry}
use Rattle.dvg_items.specs.Items.{Kind, Item, next_address}
use Rattle.dvg_items.specs.Known.{callee_at, target}
use Rattle.dvg_items.specs.Seen.{Seen, seen_with}
use Rattle.dvg_items.specs.Cursor.{Step, Onward, Last, step_past}
use Rattle.dvg_items.specs.Bounds.{IsSoundSeen}

-- no item stands there
abbrev pub StandsNone : Source → Option ℕ → Type 0
StandsNone source None = Unit {0}
StandsNone source (Some p) = (format : Format) (instr : Instr) → cell_at source p ≡ Holds format instr → ⊥

-- the item that stands here, and where the next one would stand; where no item stands there is none, and the place stays
abbrev pub GivesItem : Kind → Source → Option ℕ → Option Item → Option ℕ → Type 0
GivesItem kind source here None after = StandsNone source here × (after ≡ here)
GivesItem kind source here (Some i) after =
    (here ≡ Some i.at) × (cell_at source i.at ≡ Holds i.format i.instr) × (i.at < ADDRESS_END) × (after ≡ next_address kind i)

-- no more items than these stand from here on
abbrev pub most_left : Option ℕ → ℕ
most_left None = 0
most_left (Some p) = suc ADDRESS_END - p

-- ---- what the rules see of each item

-- by which entries it is seen, of whose items, what is read, and where the next item would stand
pub record Standing : Type 0 where
  pub list : List Entry
  pub kind : Kind
  pub word : Source
  pub here : Step

-- the word address of the next item; none behind the last one
abbrev pub address : Step → Option ℕ
address (Onward cursor) = Some cursor.at
address (Last known) = None

-- what the rules see of an item at a cursor; none behind the last one
abbrev pub IsSeenHere : Standing → Step → Seen → Type 0
IsSeenHere s (Onward cursor) v =
    (cursor.at ≡ v.item.at)
    × (v ≡ seen_with s.word.machine (callee_at s.list (target s.kind v.item.instr) cursor.known.scale) cursor.known v.item)
IsSeenHere s (Last known) v = ⊥

-- what the rules see of the item that stands here, and then where it leads; where no item stands there is none, and the place stays
abbrev pub GivesSeen : Standing → Option Seen → Standing → Type 0
GivesSeen s None t = StandsNone s.word (address s.here) × (t ≡ s)
GivesSeen s (Some v) t =
    IsSeenHere s s.here v × (cell_at s.word v.item.at ≡ Holds v.item.format v.item.instr) × IsSoundSeen v
    × (t ≡ record { list = s.list; kind = s.kind; word = s.word; here = step_past s.kind v })
