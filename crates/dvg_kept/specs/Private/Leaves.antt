-- Shapes that call nothing.
use Rattle.std.specs.Prelude.{Bool, List, None, Some, true, slice_get, ℕ, ◌≡◌}
use Rattle.dvg_words.specs.Decoding.{cell_at}
use Rattle.dvg_words.specs.Memory.{Rom, rom_word}
use Rattle.dvg_words.specs.declared.instruction.Cell.TheVariants.{Holds}
use Rattle.dvg_items.specs.Items.{LeadsTo}
use Rattle.dvg_items.specs.Known.{target}
use Rattle.dvg_items.specs.declared.item.Item.{Item}
use Rattle.dvg_items.specs.declared.item.Kind.TheVariants.{Shape}

-- no item of the shape at this word address calls anything
abbrev pub IsLeaf : Rom → ℕ → Type 0
IsLeaf rom addr =
    (earlier : List Item) (i : Item) → LeadsTo Shape (rom_word rom) addr earlier i.at → cell_at (rom_word rom) i.at ≡ Holds i.format i.instr
    → target Shape i.instr ≡ None

-- the shape at each word address that is marked is such a one
abbrev pub AreLeaves : Rom → List Bool → Type 0
AreLeaves rom leaves = (addr : ℕ) → slice_get leaves addr ≡ Some true → IsLeaf rom addr
