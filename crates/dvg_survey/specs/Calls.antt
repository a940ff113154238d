-- The calls of a frame or of a shape, and what their items may light at absolute places. All of it is this project's own.
use Rattle.dvg_words.specs.Values.{Source}
use Rattle.std.specs.Prelude.{◌≡◌, ℕ, List, [], ◌∷◌, ◌++◌, Option, None, Some, Contains}
use Rattle.dvg_words.specs.Memory.{Rom, rom_word}
use Rattle.dvg_cert.specs.declared.entry.Entry.{Entry}
use Rattle.dvg_cert.specs.declared.entry.LitBox.{LitBox}
use Rattle.dvg_items.specs.declared.item.Item.{Item}
use Rattle.dvg_items.specs.declared.item.Kind.TheVariants.{Shape}
pub use Rattle.dvg_items.specs.Items.{Stand, AreAll}
use Rattle.dvg_items.specs.Known.{Context, callee, shape_context}
use Rattle.dvg_items.specs.Least.{HoldsAll, IsLeast, absolute_points}
use Rattle.dvg_items.specs.Lit.{IsInside}
pub use Rattle.dvg_survey.specs.declared.calls.Call.{Call}

-- the call of an item that calls this entry (profile)
abbrev pub call_of : Item → Option Entry → List Call
call_of i None = []
call_of i (Some e) = record { at = i.at; entry = e } ∷ []

-- the calls among these items, in their order (profile)
abbrev pub calls_among : Context → List Item → List Call
calls_among c [] = []
calls_among c (i ∷ earlier) = calls_among c earlier ++ call_of i (callee c earlier i.instr)

-- these are the calls of all items from a word address on (profile)
abbrev pub AreCalls : Context → Source → ℕ → List Call → Type 0
AreCalls c word first calls = (items : List Item) × AreAll c.kind word first items × (calls ≡ calls_among c items)

-- the box is the least one of what all items from a word address on light at absolute places (profile)
abbrev pub IsExtent : Context → Source → ℕ → LitBox → Type 0
IsExtent c word first box = (items : List Item) × AreAll c.kind word first items × IsLeast (absolute_points c items) box

-- the box has all that the shape of an entry lights at absolute places (profile)
abbrev pub HoldsShape : Rom → List Entry → LitBox → Entry → Type 0
HoldsShape rom list box e =
    (items : List Item) → AreAll Shape (rom_word rom) e.addr items → HoldsAll box (absolute_points (shape_context rom.machine list e) items)

-- the box has all that the shapes of the list light at absolute places (profile)
abbrev pub HoldsShapes : Rom → List Entry → LitBox → Type 0
HoldsShapes rom list box = (e : Entry) → Contains list e → HoldsShape rom list box e

-- the box is the least one that has all of it (profile)
pub record IsShapesExtent (rom : Rom) (list : List Entry) (box : LitBox) : Type 0 where
  pub holds : HoldsShapes rom list box
  pub least : (other : LitBox) → HoldsShapes rom list other → IsInside box other
