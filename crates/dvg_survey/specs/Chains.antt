-- The calls by which a frame comes to an entry, by the claims of a list. All of it is this project's own.
use Rattle.dvg_words.specs.Values.{Source}
use Rattle.dvg_words.specs.declared.machine.Machine.{Machine}
use Rattle.std.specs.Prelude.{◌≡◌, ℕ, List, [], ◌∷◌, Some}
use Rattle.dvg_words.specs.Memory.{Rom, rom_word, frame_word}
use Rattle.dvg_words.specs.Decoding.{cell_at}
use Rattle.dvg_words.specs.declared.instruction.Cell.TheVariants.{Holds}
use Rattle.dvg_cert.specs.declared.entry.Entry.{Entry}
use Rattle.dvg_items.specs.declared.item.Item.{Item}
use Rattle.dvg_items.specs.Items.{LeadsTo}
use Rattle.dvg_items.specs.Known.{Context, callee, frame_context, shape_context}
use Rattle.dvg_survey.specs.Calls.{Call}

-- one of the items from a word address on stands at the call's address, and calls or tail jumps to the call's entry (profile)
pub record Calls (c : Context) (word : Source) (first : ℕ) (call : Call) : Type 0 where
  pub earlier : List Item
  pub item : Item
  pub leads : LeadsTo c.kind word first earlier item.at
  pub stands : cell_at word item.at ≡ Holds item.format item.instr
  pub at : call.at ≡ item.at
  pub callee_is : callee c earlier item.instr ≡ Some call.entry

-- the call is one of a frame with these words, by the entries of a list (profile)
abbrev pub IsFrameCall : Machine → List ℕ → List Entry → Call → Type 0
IsFrameCall machine words list call = Calls (frame_context machine list) (frame_word machine words) 0 call

-- the call is one of an entry's shape (profile)
abbrev pub IsShapeCall : Rom → List Entry → Entry → Call → Type 0
IsShapeCall rom list e call = Calls (shape_context rom.machine list e) (rom_word rom) e.addr call

-- from an entry these calls lead to the goal: each stands in the shape of the entry before it, and the last names the goal
-- (profile)
abbrev pub LeadsOn : Rom → List Entry → Entry → List Call → Entry → Type 0
LeadsOn rom list e [] goal = e ≡ goal
LeadsOn rom list e (call ∷ rest) goal = IsShapeCall rom list e call × LeadsOn rom list call.entry rest goal

-- from a frame these calls lead to the goal, and the first is the frame's own (profile)
abbrev pub IsChain : Rom → List ℕ → List Entry → List Call → Entry → Type 0
IsChain rom words list [] goal = ⊥
IsChain rom words list (call ∷ rest) goal = IsFrameCall rom.machine words list call × LeadsOn rom list call.entry rest goal
