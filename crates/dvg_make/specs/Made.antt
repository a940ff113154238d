-- What the maker makes: the list of entries that a ROM and roots ask for. All of it is this project's own.
use Rattle.std.specs.Prelude.{◌≡◌, ◌≢◌, ℕ, ◌≤◌, ◌⊎◌, List, [], ◌∷◌, Some, None, Contains}
use Rattle.dvg_words.specs.Values.{Window}
use Rattle.dvg_words.specs.Memory.{Rom, rom_word}
use Rattle.dvg_words.specs.declared.instruction.Cell.TheVariants.{Holds}
use Rattle.dvg_words.specs.Decoding.{cell_at}
use Rattle.dvg_cert.specs.declared.entry.Entry.{Entry}
use Rattle.dvg_cert.specs.declared.entry.Key.{Key}
use Rattle.dvg_cert.specs.Order.{IsCertificate}
use Rattle.dvg_cert.specs.declared.limits.TheConstants.{MOST_DEPTH, MOST_WORDS}
use Rattle.dvg_cert.specs.Lookup.{entry_at}
use Rattle.dvg_items.specs.Items.{next_address, LeadsTo}
use Rattle.dvg_items.specs.declared.item.Kind.TheVariants.{Shape}
use Rattle.dvg_items.specs.declared.item.Item.{Item}
use Rattle.dvg_items.specs.Known.{Context, shape_context, target, callee, scale_before}
use Rattle.dvg_check.specs.Rules.{ShapePlaceKeeps, AllKeep}
use Rattle.dvg_check.specs.declared.fault.ShapeWhy.{ShapeWhy}
use Rattle.dvg_check.specs.declared.fault.Mode.TheVariants.{Exact}
use Rattle.dvg_check.specs.declared.fault.ShapeWhy.TheVariants as shape
use Rattle.dvg_items.specs.Least.{lit_points, IsLeast}

-- ---- one entry

-- the list has an entry at just this address and key (profile)
abbrev pub HasEntry : List Entry → ℕ → Key → Type 0
HasEntry list addr key = (e : Entry) × (entry_at list addr key ≡ Some e)

-- P holds of each item of the shape at an address, with the items before it; a missing or odd cell is no item (profile)
abbrev pub EachItem : Rom → ℕ → (List Item → Item → Type 0) → Type 0
EachItem rom addr P =
    (earlier : List Item) (i : Item) → LeadsTo Shape (rom_word rom) addr earlier i.at
    → cell_at (rom_word rom) i.at ≡ Holds i.format i.instr → P earlier i

-- P holds of each of these items, with the items before it (profile)
abbrev pub AllHold : (List Item → Item → Type 0) → List Item → Type 0
AllHold P [] = Unit {0}
AllHold P (i ∷ earlier) = AllHold P earlier × P earlier i

-- P holds of all items of the shape at an address, up to and with the last one (profile)
abbrev pub AtEnd : Rom → ℕ → (List Item → Type 0) → Type 0
AtEnd rom addr P = EachItem rom addr (λ earlier i. next_address Shape i ≡ None → P (i ∷ earlier))

-- the rules of shapes with exact counts, but for what is lit at absolute places (profile)
abbrev pub MadeKeeps : Rom → List Entry → Entry → List Item → ℕ → ShapeWhy → Type 0
MadeKeeps rom list e earlier p why = (w : Window) → why ≢ shape.OffScreen → ShapePlaceKeeps Exact w rom list e earlier p why

-- a call or a tail jump has an entry with its target as address and the known scale before it as key (profile)
abbrev pub HasEntryAtScale : List Entry → Context → List Item → Item → Type 0
HasEntryAtScale list c earlier i = (to : ℕ) → target Shape i.instr ≡ Some to → HasEntry list to (scale_before c earlier)

-- the entry that a shape needs: exact counts, end and scale, the least box, and an entry for each call at the very scale (profile)
pub record MadeEntry (rom : Rom) (list : List Entry) (e : Entry) : Type 0 where
  -- its counts are exact, and its end and its scale are the ones known at the end
  pub keeps : AllKeep Shape (rom_word rom) e.addr (MadeKeeps rom list e)
  -- each call and tail jump has an entry at the very scale that is known there
  pub keyed : EachItem rom e.addr (HasEntryAtScale list (shape_context rom.machine list e))
  -- its box is the least one
  pub box : AtEnd rom e.addr (λ items. IsLeast (lit_points (shape_context rom.machine list e) items) e.lit)

-- the entry is made, and its counts are within the limits (profile)
pub record IsMade (rom : Rom) (list : List Entry) (e : Entry) : Type 0 where
  pub made : MadeEntry rom list e
  pub words : e.words ≤ MOST_WORDS
  pub depth : e.depth ≤ MOST_DEPTH

-- each entry of the list is made, and its counts are within the limits (profile)
abbrev pub AllMade : Rom → List Entry → Type 0
AllMade rom list = (e : Entry) → Contains list e → IsMade rom list e

-- no list of made entries has one at this address and key (profile)
abbrev pub Barred : Rom → ℕ → Key → Type 0
Barred rom addr key = (list : List Entry) → AllMade rom list → HasEntry list addr key → ⊥

-- ---- the list

-- an item of the first entry's shape calls or tail jumps to the second entry (profile)
pub record Needs (rom : Rom) (list : List Entry) (e f : Entry) : Type 0 where
  pub earlier : List Item
  pub item : Item
  pub leads : LeadsTo Shape (rom_word rom) e.addr earlier item.at
  pub stands : cell_at (rom_word rom) item.at ≡ Holds item.format item.instr
  pub callee_is : callee (shape_context rom.machine list e) earlier item.instr ≡ Some f

-- the list that is made for a ROM and for the addresses and keys that are asked for (profile)
pub record MadeFor (rom : Rom) (IsAsked : ℕ → Key → Type 0) (list : List Entry) : Type 0 where
  -- its entries are a certificate's
  pub certificate : IsCertificate rom.map list
  -- each of its entries is made
  pub each : (e : Entry) → Contains list e → MadeEntry rom list e
  -- what is asked for has its entry
  pub rooted : (addr : ℕ) (key : Key) → IsAsked addr key → HasEntry list addr key
  -- each entry is asked for, or another one needs it
  pub needed : (f : Entry) → Contains list f → IsAsked f.addr f.key ⊎ ((e : Entry) × Contains list e × Needs rom list e f)

-- the list that a ROM and roots ask for (profile)
abbrev pub Made : Rom → List (ℕ × Key) → List Entry → Type 0
Made rom roots list = MadeFor rom (λ addr key. Contains roots (addr, key)) list
