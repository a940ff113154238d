-- The items of a shape or of a frame: one instruction after another, up to where it ends. All of it is this project's own.
use Rattle.std.specs.Prelude.{◌≡◌, ℕ, ◌+◌, List, [], ◌∷◌, Option, Some, None, nat_lt, if◌then◌else◌}
use Rattle.dvg_words.specs.Values.{Source}
use Rattle.dvg_words.specs.declared.instruction.Instr.TheVariants.{Draw as Draws, Labs, Halt, Jsrl, Rtsl, Jmpl}
use Rattle.dvg_words.specs.declared.instruction.Instr.{Instr}
use Rattle.dvg_words.specs.declared.instruction.Format.{Format}
use Rattle.dvg_words.specs.declared.instruction.Cell.TheVariants.{Holds}
use Rattle.dvg_words.specs.Decoding.{word_count, cell_at}
pub use Rattle.dvg_items.specs.declared.item.Kind.{Kind}
pub use Rattle.dvg_items.specs.declared.item.Kind.TheVariants.{Shape, Frame}
pub use Rattle.dvg_items.specs.declared.item.Item.{Item}

-- the word address of the item after an instruction: a frame goes on at a forward jump, and a shape ends at a jump (profile)
abbrev pub address_after : Kind → ℕ → Format → Instr → Option ℕ
address_after kind at format (Draws d) = Some (at + word_count format)
address_after kind at format (Labs x y gscale) = Some (at + word_count format)
address_after kind at format Halt = None
address_after kind at format (Jsrl to) = Some (at + word_count format)
address_after kind at format Rtsl = None
address_after Shape at format (Jmpl to) = None
address_after Frame at format (Jmpl to) = if nat_lt at to then Some to else None

-- the word address of the next item; none after the last one
abbrev pub next_address : Kind → Item → Option ℕ
next_address kind i = address_after kind i.at i.format i.instr

-- these items, the latest first, lead from the first word address to this one, in what is read (profile)
abbrev pub LeadsTo : Kind → Source → ℕ → List Item → ℕ → Type 0
LeadsTo kind source first [] p = p ≡ first
LeadsTo kind source first (i ∷ earlier) p =
    LeadsTo kind source first earlier i.at × (cell_at source i.at ≡ Holds i.format i.instr) × (next_address kind i ≡ Some p)

-- P holds at each word address that items lead to, with the items before it
abbrev pub AtEveryPlace : Kind → Source → ℕ → (List Item → ℕ → Type 0) → Type 0
AtEveryPlace kind source first P = (earlier : List Item) (p : ℕ) → LeadsTo kind source first earlier p → P earlier p

-- P holds at the address of each of these items, with the items before it
abbrev pub AtEachOf : (List Item → ℕ → Type 0) → List Item → Type 0
AtEachOf P [] = Unit {0}
AtEachOf P (i ∷ earlier) = AtEachOf P earlier × P earlier i.at

-- these items, the latest first, stand one after another from the first word address on (profile)
abbrev pub Stand : Kind → Source → ℕ → List Item → Type 0
Stand kind word first [] = Unit {0}
Stand kind word first (i ∷ earlier) = LeadsTo kind word first earlier i.at × (cell_at word i.at ≡ Holds i.format i.instr)

-- these are all items from there on: none stands after them (profile)
pub record AreAll (kind : Kind) (word : Source) (first : ℕ) (items : List Item) : Type 0 where
  pub stand : Stand kind word first items
  pub last : (next : Item) → Stand kind word first (next ∷ items) → ⊥
