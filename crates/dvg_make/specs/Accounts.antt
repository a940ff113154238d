-- Why an entry can't be made: the shapes on the way to the faulty item, the item, and the cause. All of it is this project's own.
use Rattle.dvg_words.specs.declared.machine.Machine.{Machine}
use Rattle.std.specs.Prelude.{◌≡◌, ◌≢◌, ℕ, ◌+◌, ◌<◌, ◌≤◌, ◌⊎◌, List, [], ◌∷◌, length, take, Option, Some, None, Contains, slice_get}
use Rattle.dvg_words.specs.Memory.{Rom, InRom, rom_word}
use Rattle.dvg_words.specs.Decoding.{cell_at}
use Rattle.dvg_words.specs.declared.instruction.Instr.TheVariants as instr
use Rattle.dvg_words.specs.declared.instruction.Cell.TheVariants as cell
use Rattle.dvg_cert.specs.Entry.{IsKey, IsEntry}
use Rattle.dvg_cert.specs.Lookup.{entry_at}
use Rattle.dvg_cert.specs.declared.entry.Entry.{Entry}
use Rattle.dvg_cert.specs.declared.entry.Key.{Key}
use Rattle.dvg_cert.specs.declared.limits.TheConstants.{MOST_DEPTH, MOST_ENTRIES, MOST_WORDS}
use Rattle.dvg_items.specs.Items.{LeadsTo}
use Rattle.dvg_items.specs.Known.{Context, start, target, callee_at, scale_before, depth_under, known_before}
use Rattle.dvg_items.specs.Lit.{PlaceKnown, ScaleKnown}
use Rattle.dvg_items.specs.Seen.{seen_at, seen_with}
use Rattle.dvg_items.specs.declared.seen.Seen.{Seen}
use Rattle.dvg_items.specs.declared.item.Item.{Item}
use Rattle.dvg_items.specs.declared.item.Kind.TheVariants.{Shape}
use Rattle.dvg_items.specs.declared.known.Known.{Known}
use Rattle.dvg_make.specs.Made.{HasEntry, AllHold, AllMade}
use Rattle.dvg_make.specs.Frames.{CallAt, HasAsked}
use Rattle.dvg_make.specs.Refusals.{EntryFault, MakeFault, FrameCall, FramesFault, make_fault_of}
use Rattle.dvg_make.specs.declared.fault.EntryFault.TheVariants as fault
pub use Rattle.dvg_make.specs.declared.account.MakeAccount.{MakeAccount}
pub use Rattle.dvg_make.specs.declared.account.ShapeAt.{ShapeAt}
pub use Rattle.dvg_make.specs.declared.account.EntryCause.{EntryCause}
pub use Rattle.dvg_make.specs.declared.account.EntryCause.TheVariants.{RootOutside, Missing, Odd, Halt, BeamUnknown, ScaleUnknown, Ring, Deep, TooManyWords, TooManyEntries, Memory}

-- ---- the items that the maker passes

-- the context of a shape's items, if the shape is called at this key
abbrev pub keyed_context : Machine → List Entry → Key → Context
keyed_context machine list key = record { kind = Shape; machine = machine; list = list; scale = key }

-- the item is no HALT, and lights only at a known place and scale (profile)
pub record IsStraight (v : Seen) : Type 0 where
  pub no_halt : v.item.instr ≢ instr.Halt
  pub place : PlaceKnown v.extent v.place
  pub scale : ScaleKnown v.extent

-- it is straight, and the depth under it and the words up to and with it are within the limits (profile)
pub record IsAsked (v : Seen) : Type 0 where
  pub straight : IsStraight v
  pub deep : depth_under v.item.instr v.callee ≤ MOST_DEPTH
  pub many : v.after.words ≤ MOST_WORDS

-- the maker passes the item: it is as asked, and what it calls has an entry for exactly the scale there (profile)
pub record IsTaken (c : Context) (earlier : List Item) (i : Item) : Type 0 where
  pub asked : IsAsked (seen_at c earlier i)
  pub keyed : (to : ℕ) → target Shape i.instr ≡ Some to → HasEntry c.list to (scale_before c earlier)

-- the maker passes each of these items
abbrev pub AllTaken : Context → List Item → Type 0
AllTaken c items = AllHold (IsTaken c) items

-- ---- from shape to shape

-- the maker passes the items of the shape before this word address, and `before` is known there (profile)
pub record Reaches (rom : Rom) (list : List Entry) (shape : ShapeAt) (at : ℕ) (before : Known) : Type 0 where
  pub items : List Item
  pub leads : LeadsTo Shape (rom_word rom) shape.addr items at
  pub taken : AllTaken (keyed_context rom.machine list shape.key) items
  pub known : before ≡ known_before (keyed_context rom.machine list shape.key) items

-- the item at this word address calls or tail jumps to the shape, at the scale that is known there (profile)
pub record CallsAt (rom : Rom) (at : ℕ) (before : Known) (shape : ShapeAt) : Type 0 where
  pub item : Item
  pub at_is : item.at ≡ at
  pub stands : cell_at (rom_word rom) item.at ≡ cell.Holds item.format item.instr
  pub target_is : target Shape item.instr ≡ Some shape.addr
  pub key_is : before.scale ≡ shape.key

-- an item of the first shape calls or tail jumps to the second (profile)
pub record Precedes (rom : Rom) (list : List Entry) (shape next : ShapeAt) : Type 0 where
  pub at : ℕ
  pub before : Known
  pub reaches : Reaches rom list shape at before
  pub calls : CallsAt rom at before next

-- the shape calls or tail jumps to the first of the chain, and each of the chain to the next
abbrev pub IsLinked : Rom → List Entry → ShapeAt → List ShapeAt → Type 0
IsLinked rom list shape [] = Unit {0}
IsLinked rom list shape (next ∷ chain) = Precedes rom list shape next × IsLinked rom list next chain

-- the last shape of the chain, or this one if the chain is empty
abbrev pub last_shape : ShapeAt → List ShapeAt → ShapeAt
last_shape shape [] = shape
last_shape shape (next ∷ chain) = last_shape next chain

-- ---- why

-- what a cause means of an item, at the scale that is known before it (profile)
abbrev pub SaysOf : Key → Seen → EntryCause → Type 0
SaysOf scale v Halt = v.item.instr ≡ instr.Halt
-- it lights at a lost place
SaysOf scale v BeamUnknown = PlaceKnown v.extent v.place → ⊥
-- it lights at unknown scale, and not at a lost place
SaysOf scale v ScaleUnknown = PlaceKnown v.extent v.place × (ScaleKnown v.extent → ⊥)
-- it is straight and calls the entry for this address and key, and calls nest deeper under it than a certificate allows
SaysOf scale v (Deep to key) =
    (target Shape v.item.instr ≡ Some to) × (scale ≡ key) × (MOST_DEPTH < depth_under v.item.instr v.callee) × IsStraight v
-- it is straight and not too deep, but the words up to and with it are this many, which is more than a certificate allows
SaysOf scale v (TooManyWords words) =
    (words ≡ v.after.words) × (MOST_WORDS < words) × IsStraight v × (depth_under v.item.instr v.callee ≤ MOST_DEPTH)
SaysOf scale v cause = ⊥

-- the cause holds of the item at this word address, and what the item calls has its entry in the list (profile)
pub record SaysAt (rom : Rom) (list : List Entry) (at : ℕ) (before : Known) (cause : EntryCause) : Type 0 where
  pub item : Item
  pub at_is : item.at ≡ at
  pub stands : cell_at (rom_word rom) item.at ≡ cell.Holds item.format item.instr
  pub keyed : (to : ℕ) → target Shape item.instr ≡ Some to → HasEntry list to before.scale
  pub says : SaysOf before.scale (seen_with rom.machine (callee_at list (target Shape item.instr) before.scale) before item) cause

-- no two entries have the same address and key
abbrev pub IsUnique : List Entry → Type 0
IsUnique [] = Unit {0}
IsUnique (e ∷ list) = (entry_at list e.addr e.key ≡ None) × IsUnique list

-- no two of these shapes are the same, and none has an entry yet
abbrev pub AreUnmade : List Entry → List ShapeAt → Type 0
AreUnmade list [] = Unit {0}
AreUnmade list (shape ∷ chain) = (entry_at list shape.addr shape.key ≡ None) × (Contains chain shape → ⊥) × AreUnmade list chain

-- the entries of the list and the shapes in the making, all of them different, leave no room for one more
pub record IsFull (list : List Entry) (chain : List ShapeAt) : Type 0 where
  pub unique : IsUnique list
  pub unmade : AreUnmade list chain
  pub many : MOST_ENTRIES ≤ length list + length chain

-- what a cause means at a word address of the last shape of a chain (profile)
abbrev pub CauseAt : Rom → List Entry → List ShapeAt → ℕ → Known → EntryCause → Type 0
CauseAt rom list chain at before RootOutside = ⊥
CauseAt rom list chain at before Missing = cell_at (rom_word rom) at ≡ cell.Missing
CauseAt rom list chain at before Odd = cell_at (rom_word rom) at ≡ cell.Odd
-- the item calls the shape of the chain at this index
CauseAt rom list chain at before (Ring from) = (shape : ShapeAt) × (slice_get chain from ≡ Some shape) × CallsAt rom at before shape
-- the item calls a shape that has no entry yet and is not in the chain, and there is no room for it
CauseAt rom list chain at before TooManyEntries =
    (shape : ShapeAt) × CallsAt rom at before shape × (entry_at list shape.addr shape.key ≡ None) × (Contains chain shape → ⊥)
    × IsFull list chain
CauseAt rom list chain at before Memory = Unit {0}
CauseAt rom list chain at before cause = SaysAt rom list at before cause

-- what a cause means of a shape that is asked for and was not begun (profile)
abbrev pub CauseOf : Rom → List Entry → ShapeAt → EntryCause → Type 0
CauseOf rom list asked RootOutside = InRom rom.map asked.addr × IsKey asked.key → ⊥
CauseOf rom list asked TooManyEntries = (entry_at list asked.addr asked.key ≡ None) × IsFull list []
CauseOf rom list asked Memory = Unit {0}
CauseOf rom list asked cause = ⊥

-- the chain begins with the shape that is asked for, each of its shapes calls the next, and the cause holds at a word address of
-- the last one. If the chain is empty, the shape was not begun, and the word address is its own (profile)
abbrev pub Tells : Rom → List Entry → ShapeAt → List ShapeAt → ℕ → Known → EntryCause → Type 0
Tells rom list asked [] at before cause = (at ≡ asked.addr) × (before ≡ start Shape asked.key) × CauseOf rom list asked cause
Tells rom list asked (shape ∷ chain) at before cause =
    (shape ≡ asked) × IsLinked rom list shape chain × Reaches rom list (last_shape shape chain) at before
    × CauseAt rom list (shape ∷ chain) at before cause

-- ---- what was asked for

-- the shape is a root, if no call is named; else this call of a frame calls it. The list has an entry for all that is asked for
-- before: roots in their order, then the calls of each frame in their order (profile)
abbrev pub IsNamedBy : Machine → List (ℕ × Key) → List (List ℕ) → List Entry → Option FrameCall → ShapeAt → Type 0
IsNamedBy machine roots frames list None asked =
    (root : ℕ) × (slice_get roots root ≡ Some (asked.addr, asked.key)) × HasAsked machine (take root roots) [] list
IsNamedBy machine roots frames list (Some call) asked =
    (words : List ℕ) × (slice_get frames call.frame ≡ Some words)
    × CallAt machine words list call.at asked.addr asked.key
    × HasAsked machine roots (take call.frame frames) list

-- the shape of an entry, or a shape of the chain, calls or tail jumps to this shape (profile)
pub record IsNeededBy (rom : Rom) (list : List Entry) (chain : List ShapeAt) (shape : ShapeAt) : Type 0 where
  pub from : ShapeAt
  pub there : HasEntry list from.addr from.key ⊎ Contains chain from
  pub precedes : Precedes rom list from shape

-- each entry of the list is asked for, and all that is asked for before it has an entry too; or another entry or the chain needs it
-- (profile)
abbrev pub AllNeeded : Rom → List (ℕ × Key) → List (List ℕ) → List Entry → List ShapeAt → Type 0
AllNeeded rom roots frames list chain =
    (shape : ShapeAt) → HasEntry list shape.addr shape.key
    → ((call : Option FrameCall) × IsNamedBy rom.machine roots frames list call shape) ⊎ IsNeededBy rom list chain shape

-- each entry of the list may stand in a certificate for the ROM (profile)
abbrev pub AllWithin : Rom → List Entry → Type 0
AllWithin rom list = (e : Entry) → Contains list e → IsEntry rom.map.rom_first rom.map.rom_last e

-- the account of a refusal is right, by some list of made and needed entries (profile)
pub record IsTold
    (rom : Rom) (roots : List (ℕ × Key)) (frames : List (List ℕ)) (call : Option FrameCall) (chain : List ShapeAt) (at : ℕ)
    (before : Known) (cause : EntryCause) : Type 0 where
  pub list : List Entry
  pub within : AllWithin rom list
  pub made : AllMade rom list
  pub asked : ShapeAt
  pub named : IsNamedBy rom.machine roots frames list call asked
  pub needed : AllNeeded rom roots frames list chain
  -- with the shapes of the chain they are no more than a certificate may have
  pub room : length list + length chain ≤ MOST_ENTRIES
  pub tells : Tells rom list asked chain at before cause
  -- only a root lies outside the ROM
  pub outside : cause ≡ RootOutside → call ≡ None

-- the statement holds, unless memory was out
abbrev pub UnlessMemory : EntryCause → Type 0 → Type 0
UnlessMemory Memory T = Unit {0}
UnlessMemory cause T = T

-- the account is right; if memory was out, it says nothing (profile)
abbrev pub IsAccount : Rom → List (ℕ × Key) → List (List ℕ) → MakeAccount → Type 0
IsAccount rom roots frames a =
    UnlessMemory a.cause (IsTold rom roots frames a.fault.call a.chain.items a.at a.before a.cause)

-- the refusal to which a cause at a word address leads (profile)
abbrev pub entry_fault : ℕ → EntryCause → EntryFault
entry_fault at (Ring from) = fault.Deep
entry_fault at (Deep to key) = fault.Deep
entry_fault at (TooManyWords words) = fault.TooManyWords
entry_fault at TooManyEntries = fault.TooManyEntries
entry_fault at Memory = fault.Memory
entry_fault at cause = fault.Unstraight at

-- ---- refusals

-- some cause at some word address leads to the refusal, with a right account, unless memory was out (profile)
pub record HasCause (rom : Rom) (roots : List (ℕ × Key)) (frames : List (List ℕ)) (fault : FramesFault) : Type 0 where
  pub chain : List ShapeAt
  pub at : ℕ
  pub before : Known
  pub cause : EntryCause
  pub why_is : fault.why ≡ entry_fault at cause
  pub told : UnlessMemory cause (IsTold rom roots frames fault.call chain at before cause)

-- a refusal of roots alone has a cause (profile)
abbrev pub HasRootCause : Rom → List (ℕ × Key) → MakeFault → Type 0
HasRootCause rom roots f =
    (why : EntryFault) × (make_fault_of why ≡ f) × HasCause rom roots [] (record { call = None; why = why })
