-- The items of a frame, as a list.
use Rattle.std.specs.Prelude.{◌≡◌, ◌↔◌, ℕ, None, List, IsTrue, reverse}
use Rattle.dvg_words.specs.declared.instruction.Instr.{Instr}
use Rattle.dvg_words.specs.declared.instruction.Instr.TheVariants.{Halt}
use Rattle.dvg_words.specs.declared.instruction.Format.{Format}
use Rattle.dvg_words.specs.declared.instruction.Cell.TheVariants.{Holds}
use Rattle.dvg_words.specs.declared.machine.Machine.TheVariants.{Board}
use Rattle.dvg_words.specs.Decoding.{cell_at}
use Rattle.dvg_words.specs.Memory.{frame_word}
use Rattle.dvg_items.specs.declared.item.Kind.TheVariants.{Frame}
use Rattle.dvg_items.specs.Items.{LeadsTo, next_address}
pub use Rattle.dvg_recipe.specs.declared.frame_items.FrameItems.{FrameItems}

-- the board finds a HALT at the address
abbrev pub IsHalt : List ℕ → ℕ → Type 0
IsHalt words at = (format : Format) × (cell_at (frame_word Board words) at ≡ Holds format Halt)

-- these items lead from word 000 to the address, from where nothing leads further, and it is known whether a HALT stands there
pub record AreItems (words : List ℕ) (all : FrameItems) : Type 0 where
  pub leads : LeadsTo Frame (frame_word Board words) 0 (reverse all.items.items) all.end
  pub halts : IsTrue all.halts ↔ IsHalt words all.end
  pub last :
      (format : Format) (instr : Instr) → cell_at (frame_word Board words) all.end ≡ Holds format instr
      → next_address Frame (record { at = all.end; format = format; instr = instr }) ≡ None
