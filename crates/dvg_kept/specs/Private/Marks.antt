-- Which entries of a list are marked.
use Rattle.std.specs.Prelude.{Bool, Contains, List, None, Option, Some, [], false, length, replicate, slice_get, suc, true, ℕ, ◌*◌, ◌++◌, ◌+◌, ◌-◌, ◌∷◌, ◌≡◌, ◌≤◌, ◌⊎◌}
use Rattle.dvg_words.specs.Decoding.{cell_at}
use Rattle.dvg_words.specs.Memory.{Rom, frame_word, rom_word}
use Rattle.dvg_words.specs.Values.{Source}
use Rattle.dvg_words.specs.declared.instruction.Cell.TheVariants.{Holds}
use Rattle.dvg_cert.specs.Lookup.{entry_at}
use Rattle.dvg_cert.specs.declared.entry.Entry.{Entry}
use Rattle.dvg_cert.specs.declared.entry.Key.{Key}
use Rattle.dvg_cert.specs.declared.entry.Key.TheVariants.{Any}
use Rattle.dvg_items.specs.Items.{LeadsTo}
use Rattle.dvg_items.specs.Known.{Context, frame_context, scale_before, shape_context, target}
use Rattle.dvg_items.specs.declared.item.Item.{Item}
use Rattle.dvg_items.specs.declared.item.Kind.TheVariants.{Frame, Shape}
pub use Rattle.dvg_kept.specs.declared.marks.Place.{Place}

-- which are marked, by their positions, the positions of marked ones that wait, and how many are marked
pub record Marks : Type 0 where
  pub marked : List Bool
  pub waiting : List ℕ
  pub count : ℕ

-- the entries whose positions are marked, in their order
abbrev pub picked : List Bool → List Entry → List Entry
picked [] es = []
picked (b ∷ marks) [] = []
picked (true ∷ marks) (e ∷ es) = e ∷ picked marks es
picked (false ∷ marks) (e ∷ es) = picked marks es

-- the entry is marked
abbrev pub IsMarked : List Entry → Marks → Entry → Type 0
IsMarked list m e = (q : ℕ) × (slice_get m.marked q ≡ Some true) × (slice_get list q ≡ Some e)

-- the entry waits
abbrev pub Waits : List Entry → Marks → Entry → Type 0
Waits list m e = (q : ℕ) × Contains m.waiting q × (slice_get list q ≡ Some e)

-- an item that the first one leads to calls this address at this scale
pub record Asks (c : Context) (source : Source) (first to : ℕ) (scale : Key) : Type 0 where
  pub earlier : List Item
  pub item : Item
  pub leads : LeadsTo c.kind source first earlier item.at
  pub stands : cell_at source item.at ≡ Holds item.format item.instr
  pub target_is : target c.kind item.instr ≡ Some to
  pub scale_is : scale_before c earlier ≡ scale

-- the context of items from a place on
abbrev pub context_of : Source → List Entry → Place → Context
context_of source list p = record { kind = p.kind; machine = source.machine; list = list; scale = p.scale }

-- all that is called has its entry, which is marked
abbrev pub AllAskedMarked : Source → List Entry → Place → Marks → Type 0
AllAskedMarked source list p m =
    (to : ℕ) (scale : Key) → Asks (context_of source list p) source p.at to scale
    → (e : Entry) × (entry_at list to scale ≡ Some e) × IsMarked list m e

-- how many are true
abbrev pub trues : List Bool → ℕ
trues [] = 0
trues (true ∷ bs) = suc (trues bs)
trues (false ∷ bs) = trues bs

-- as many are marked as are counted, and what waits is marked
pub record IsCounted (m : Marks) : Type 0 where
  pub count_is : m.count ≡ trues m.marked
  pub wait : (q : ℕ) → Contains m.waiting q → slice_get m.marked q ≡ Some true

-- none of so many is marked
abbrev pub IsNothing : ℕ → Marks → Type 0
IsNothing n m = m ≡ record { marked = replicate n false; waiting = []; count = 0 }

-- what one mark more changes: it is marked now, and the others are as they were; if it was not marked, it waits, or it
-- need not wait
pub record MarksOne (NeedNotWait : Type 0) (position : ℕ) (old new : Marks) : Type 0 where
  pub len : length new.marked ≡ length old.marked
  pub marked : slice_get new.marked position ≡ Some true
  pub kept : (q : ℕ) → slice_get old.marked q ≡ Some true → slice_get new.marked q ≡ Some true
  pub waits : (q : ℕ) → Contains old.waiting q → Contains new.waiting q
  pub others : (q : ℕ) → slice_get new.marked q ≡ Some true → (slice_get old.marked q ≡ Some true)
      ⊎ ((q ≡ position) × (Contains new.waiting q ⊎ NeedNotWait))
  pub less : length new.waiting + 2 * (length new.marked - new.count) ≤ length old.waiting + 2 * (length old.marked - old.count)

-- the entry with this address and key is marked; where its shape is known to call nothing, it need not wait
pub record MarksEntry (list : List Entry) (leaves : List Bool) (addr : ℕ) (key : Key) (old new : Marks) (e : Entry) : Type 0 where
  pub position : ℕ
  pub found : entry_at list addr key ≡ Some e
  pub stands : slice_get list position ≡ Some e
  pub one : MarksOne (slice_get leaves addr ≡ Some true) position old new

-- the entry that is called at a target, if there is one, is marked
abbrev pub IsCalledAt : List Entry → List Bool → Option ℕ → Key → Marks → Marks → Option Entry → Type 0
IsCalledAt list leaves None scale m new called = (called ≡ None) × (new ≡ m)
IsCalledAt list leaves (Some to) scale m new called = (e : Entry) × (called ≡ Some e) × MarksEntry list leaves to scale m new e

-- more are marked, all of which are asked for, and wait or are known to call nothing
pub record MarksMore (list : List Entry) (leaves : List Bool) (IsAsked : ℕ → Key → Type 0) (old new : Marks) : Type 0 where
  pub len : length new.marked ≡ length old.marked
  pub kept : (q : ℕ) → slice_get old.marked q ≡ Some true → slice_get new.marked q ≡ Some true
  pub waits : (q : ℕ) → Contains old.waiting q → Contains new.waiting q
  pub others :
      (q : ℕ) → slice_get new.marked q ≡ Some true
      → (slice_get old.marked q ≡ Some true)
      ⊎ ((e : Entry) × (slice_get list q ≡ Some e) × (entry_at list e.addr e.key ≡ Some e) × IsAsked e.addr e.key
      × (Contains new.waiting q ⊎ (slice_get leaves e.addr ≡ Some true)))
  pub less : length new.waiting + 2 * (length new.marked - new.count) ≤ length old.waiting + 2 * (length old.marked - old.count)

-- the last one that waits, which is marked, does so no longer
pub record Takes (position : ℕ) (old new : Marks) : Type 0 where
  pub is_marked : slice_get old.marked position ≡ Some true
  pub waiting : old.waiting ≡ new.waiting ++ position ∷ []
  pub marked : new.marked ≡ old.marked
  pub count : new.count ≡ old.count

-- where a frame starts, and where the shape of an entry does
abbrev pub frame_start : Place
frame_start = record { kind = Frame; at = 0; scale = Any }

abbrev pub shape_start : Entry → Place
shape_start e = record { kind = Shape; at = e.addr; scale = e.key }

-- the entry is called by the frame, or by the shape of a marked one
abbrev pub IsCalled : Rom → List ℕ → List Entry → Marks → Entry → Type 0
IsCalled rom words list m e =
    Asks (frame_context rom.machine list) (frame_word rom.machine words) 0 e.addr e.key
    ⊎ ((f : Entry) × IsMarked list m f × Asks (shape_context rom.machine list f) (rom_word rom) f.addr e.addr e.key)

-- all that the frame calls is marked; each marked entry is called, and what it calls is marked, too, or it waits for that
pub record IsMarking (rom : Rom) (words : List ℕ) (list : List Entry) (m : Marks) : Type 0 where
  pub len : length m.marked ≡ length list
  pub frame : AllAskedMarked (frame_word rom.machine words) list frame_start m
  pub called : (e : Entry) → IsMarked list m e → IsCalled rom words list m e
  pub closed : (e : Entry) → IsMarked list m e → Waits list m e ⊎ AllAskedMarked (rom_word rom) list (shape_start e) m
