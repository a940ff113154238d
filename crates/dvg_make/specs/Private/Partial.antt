-- The entry of a shape, made item by item.
use Rattle.std.specs.Prelude.{◌≡◌, ℕ, ◌<◌, ◌≤◌, List, [], ◌++◌, Option, Some, None, Contains}
use Rattle.dvg_words.specs.declared.instruction.Instr.{Instr}
use Rattle.dvg_words.specs.declared.instruction.Cell.TheVariants.{Holds}
use Rattle.dvg_words.specs.declared.instruction.Cell.TheVariants as cell
use Rattle.dvg_words.specs.Decoding.{cell_at}
use Rattle.dvg_words.specs.declared.beam.Point.{Point}
use Rattle.dvg_words.specs.Memory.{Rom, rom_word}
use Rattle.dvg_cert.specs.Entry.{IsKey, IsEntry}
use Rattle.dvg_cert.specs.declared.entry.Entry.{Entry}
use Rattle.dvg_cert.specs.declared.entry.Key.{Key}
use Rattle.dvg_cert.specs.declared.entry.LitBox.TheVariants.{Empty}
use Rattle.dvg_cert.specs.Lookup.{entry_at}
use Rattle.dvg_items.specs.Items.{LeadsTo}
use Rattle.dvg_items.specs.declared.item.Kind.TheVariants.{Shape}
use Rattle.dvg_items.specs.declared.item.Item.{Item}
use Rattle.dvg_items.specs.Known.{Context, target, callee_at, scale_before, known_before}
use Rattle.dvg_items.specs.Lit.{box_extent, relative_corners, PlaceKnown}
use Rattle.dvg_items.specs.Seen.{seen_at}
use Rattle.dvg_items.specs.declared.seen.Seen.{Seen}
use Rattle.dvg_items.specs.Bounds.{IsSoundCursor}
use Rattle.dvg_items.specs.Cursor.{first_cursor}
use Rattle.dvg_items.specs.declared.known.Known.{Known}
use Rattle.dvg_words.specs.declared.map.TheConstants.{ADDRESS_END}
use Rattle.dvg_cert.specs.declared.entry.LitBox.{LitBox}
use Rattle.dvg_cert.specs.declared.limits.TheConstants.{MOST_DEPTH, MOST_WORDS}
use Rattle.dvg_make.specs.declared.partial.PartialEntry.{PartialEntry}
use Rattle.dvg_make.specs.declared.partial.Progress.{Progress}
use Rattle.dvg_make.specs.declared.partial.Progress.TheVariants.{Finished, Waiting}
use Rattle.dvg_check.specs.Private.Tails.{known_at_end, known_over}
use Rattle.dvg_items.specs.Least.{lit_points, IsLeast}
use Rattle.dvg_make.specs.Made.{HasEntry, AllHold, MadeEntry, AllMade}
use Rattle.dvg_make.specs.declared.obstacle.Obstacle.{Obstacle}
use Rattle.dvg_make.specs.Accounts.{ShapeAt, EntryCause, Missing, Odd, Reaches, CauseAt}
pub use Rattle.dvg_make.specs.Accounts.{keyed_context, IsStraight, IsAsked}

-- the partial entry before the first item
abbrev pub start : ℕ → Key → PartialEntry
start addr key = record { addr = addr; key = key; cursor = first_cursor Shape addr key; lit = Empty }

-- the whole entry, if this is known after the last item and this is the least box
abbrev pub entry_of : ℕ → Key → Known → LitBox → Entry
entry_of addr key known lit =
    record { addr = addr; key = key; stop = known.place; lit = lit; depth = known.depth; words = known.words; scale = known.scale }

-- the item is straight, and what it calls has an entry for exactly the scale there
pub record IsFine (c : Context) (earlier : List Item) (i : Item) : Type 0 where
  pub straight : IsStraight (seen_at c earlier i)
  pub keyed : (to : ℕ) → target Shape i.instr ≡ Some to → HasEntry c.list to (scale_before c earlier)

-- each of these items is fine
abbrev pub AllFine : Context → List Item → Type 0
AllFine c items = AllHold (IsFine c) items

-- the item is as asked, and with it the box grows from one least box to the next
pub record Passes (v : Seen) (lit new : LitBox) : Type 0 where
  pub grows : (ps : List Point) → IsLeast ps lit → IsLeast (relative_corners v.extent v.place ++ ps) new
  pub asked : IsAsked v

-- each of these items is fine, this is known after them, and this is the least box of what they light
pub record KnowsAt (c : Context) (items : List Item) (known : Known) (lit : LitBox) : Type 0 where
  pub known_is : known ≡ known_before c items
  pub least : IsLeast (lit_points c items) lit
  pub fine : AllFine c items

-- the partial entry is right, as far as its items were passed
pub record IsPartial (rom : Rom) (list : List Entry) (w : PartialEntry) : Type 0 where
  pub items : List Item
  pub leads : LeadsTo Shape (rom_word rom) w.addr items w.cursor.at
  pub knows : KnowsAt (keyed_context rom.machine list w.key) items w.cursor.known w.lit
  pub sound : IsSoundCursor w.cursor
  pub shallow : w.cursor.known.depth ≤ MOST_DEPTH
  pub few : w.cursor.known.words ≤ MOST_WORDS
  pub keyed : IsKey w.key

-- the second list has all entries of the first
abbrev pub Extends : List Entry → List Entry → Type 0
Extends a b = (addr : ℕ) (key : Key) (e : Entry) → entry_at a addr key ≡ Some e → entry_at b addr key ≡ Some e

-- no list of made entries that extends this list has an entry at this address and key
abbrev pub NeverAt : Rom → List Entry → ℕ → Key → Type 0
NeverAt rom list addr key = (made : List Entry) → AllMade rom made → Extends list made → HasEntry made addr key → ⊥

-- this is the entry that an instruction calls, for exactly this scale
pub record IsCallee (list : List Entry) (i : Instr) (scale : Key) (callee : Option Entry) : Type 0 where
  pub value : callee ≡ callee_at list (target Shape i) scale
  pub keyed : (to : ℕ) → target Shape i ≡ Some to → HasEntry list to scale

-- the list has no entry for what an instruction calls
pub record LacksCallee (list : List Entry) (i : Instr) (scale : Key) (addr : ℕ) : Type 0 where
  pub target_is : target Shape i ≡ Some addr
  pub none : entry_at list addr scale ≡ None

-- ---- tails

-- a tail is a made entry of a shape, whether anything calls that shape or not
pub record IsTail (rom : Rom) (list : List Entry) (tail : Entry) : Type 0 where
  pub entry : IsEntry rom.map.rom_first rom.map.rom_last tail
  pub made : MadeEntry rom list tail

-- each of these is a tail
abbrev pub AreTails : Rom → List Entry → List Entry → Type 0
AreTails rom list tails = (tail : Entry) → Contains tails tail → IsTail rom list tail

-- the whole entry, by the partial one and a tail behind it: what is known past both, and the least box with what the tail lights
pub record EndsBy (w : PartialEntry) (tail e : Entry) : Type 0 where
  pub known : Known
  pub lit : LitBox
  pub entry_is : e ≡ entry_of w.addr w.key known lit
  pub known_is : known ≡ known_over w.cursor.known (known_at_end tail)
  pub grows : (ps : List Point) → IsLeast ps w.lit → IsLeast (relative_corners (box_extent tail.lit) w.cursor.known.place ++ ps) lit
  pub place : PlaceKnown (box_extent tail.lit) w.cursor.known.place
  pub words : known.words ≤ MOST_WORDS

-- the whole entry, by the partial one and the tail among these that begins at its next item
pub record EndsByOne (w : PartialEntry) (tails : List Entry) (e : Entry) : Type 0 where
  pub tail : Entry
  pub there : entry_at tails w.cursor.at w.cursor.known.scale ≡ Some tail
  pub ends : EndsBy w tail e

-- ---- how far a shape was made

-- the whole entry is a made one
pub record IsFinished (rom : Rom) (list : List Entry) (w : PartialEntry) (e : Entry) : Type 0 where
  pub addr : e.addr ≡ w.addr
  pub key : e.key ≡ w.key
  pub entry : IsEntry rom.map.rom_first rom.map.rom_last e
  pub made : MadeEntry rom list e

-- the next item calls what has no entry yet
pub record IsWaiting (rom : Rom) (list : List Entry) (w new : PartialEntry) (addr : ℕ) : Type 0 where
  pub same_addr : new.addr ≡ w.addr
  pub same_key : new.key ≡ w.key
  pub partial : IsPartial rom list new
  pub item : Item
  pub at : item.at ≡ new.cursor.at
  pub stands : cell_at (rom_word rom) item.at ≡ Holds item.format item.instr
  pub target_is : target Shape item.instr ≡ Some addr
  pub none : entry_at list addr new.cursor.known.scale ≡ None
  pub near : addr < ADDRESS_END
  pub scale : IsKey new.cursor.known.scale

-- how far a shape was made: finished, or waiting for an entry
abbrev pub Advances : Rom → List Entry → PartialEntry → Progress → Type 0
Advances rom list w (Finished e at) = IsFinished rom list w e
Advances rom list w (Waiting new addr) = IsWaiting rom list w new addr

-- the address and the key of its shape
abbrev pub shape_of : PartialEntry → ShapeAt
shape_of w = record { addr = w.addr; key = w.key }

-- the next item is an obstacle, and no made list has an entry for the shape
pub record IsStopped (rom : Rom) (list : List Entry) (w : PartialEntry) (obstacle : Obstacle) : Type 0 where
  pub never : NeverAt rom list w.addr w.key
  pub reaches : Reaches rom list (shape_of w) obstacle.cursor.at obstacle.cursor.known
  pub cause : CauseAt rom list [] obstacle.cursor.at obstacle.cursor.known obstacle.cause

-- no item stands at this word address of the ROM
abbrev pub IsAbsent : Rom → ℕ → EntryCause → Type 0
IsAbsent rom at Missing = cell_at (rom_word rom) at ≡ cell.Missing
IsAbsent rom at Odd = cell_at (rom_word rom) at ≡ cell.Odd
IsAbsent rom at cause = ⊥
