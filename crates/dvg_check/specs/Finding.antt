-- The first fault, with what stands there and what is known before it. All of it is this project's own.
use Rattle.dvg_words.specs.declared.machine.Machine.{Machine}
use Rattle.std.specs.Prelude.{◌≡◌, ℕ, List}
use Rattle.dvg_words.specs.Values.{Window, Source}
use Rattle.dvg_words.specs.Memory.{Rom, rom_word, frame_word}
use Rattle.dvg_words.specs.Decoding.{cell_at}
use Rattle.dvg_words.specs.declared.instruction.Cell.TheVariants as cell
use Rattle.dvg_cert.specs.declared.entry.Entry.{Entry}
use Rattle.dvg_items.specs.declared.item.Item.{Item}
use Rattle.dvg_items.specs.Known.{Context, known_before, shape_context, frame_context}
use Rattle.dvg_items.specs.declared.known.Known.{Known}
use Rattle.dvg_items.specs.Bounds.{IsSoundSeen}
use Rattle.dvg_items.specs.Seen.{seen_at}
use Rattle.dvg_check.specs.Rules.{Mode, ShapePlaceKeeps, FramePlaceKeeps}
use Rattle.dvg_check.specs.FirstFault.{FaultAt, FirstShapeFault, shape_number, frame_number}
pub use Rattle.dvg_check.specs.declared.fault.Found.{Found}
pub use Rattle.dvg_check.specs.declared.fault.Found.TheVariants.{Missing, Odd, Seen}
pub use Rattle.dvg_check.specs.declared.fault.FrameFinding.{FrameFinding}
pub use Rattle.dvg_check.specs.declared.fault.ShapeFinding.{ShapeFinding}

-- what is found at a word address after these items: an instruction with a word missing, an odd LABS, or an item as the rules see it
abbrev pub IsFound : Context → Source → List Item → ℕ → Found → Type 0
IsFound c word items at Missing = cell_at word at ≡ cell.Missing
IsFound c word items at Odd = cell_at word at ≡ cell.Odd
IsFound c word items at (Seen seen) =
    (seen.item.at ≡ at) × (cell_at word at ≡ cell.Holds seen.item.format seen.item.instr) × (seen ≡ seen_at c items seen.item)

-- the first fault, what is known before it by the items that lead there, and what stands there
pub record FaultFound {Why : Type 0} (order : Why → ℕ) (c : Context) (word : Source) (first : ℕ)
    (keeps : List Item → ℕ → Why → Type 0) (at : ℕ) (why : Why) (before : Known) (found : Found) : Type 0 where
  pub fault : FaultAt order c.kind word first keeps at why
  pub known : before ≡ known_before c fault.items
  pub stands : IsFound c word fault.items at found

-- the first fault of a frame, with what is known before it and what stands there
abbrev pub FirstFrameFound : Window → Machine → List ℕ → List Entry → ℕ → FrameFinding → Type 0
FirstFrameFound w machine words list budget f =
    FaultFound frame_number (frame_context machine list) (frame_word machine words) 0 (FramePlaceKeeps w machine words list budget)
    f.fault.word f.fault.why f.before f.found

-- the first fault of an entry's shape, with what is known before it and what stands there
abbrev pub ShapeFaultFound : Mode → Window → Rom → List Entry → Entry → ShapeFinding → Type 0
ShapeFaultFound mode w rom list e f =
    FaultFound shape_number (shape_context rom.machine list e) (rom_word rom) e.addr (ShapePlaceKeeps mode w rom list e)
    f.fault.word f.fault.why f.before f.found

-- the first fault of a certificate, the entry of its shape, what is known before it, and what stands there
pub record FirstShapeFound (mode : Mode) (w : Window) (rom : Rom) (list : List Entry) (f : ShapeFinding) : Type 0 where
  pub first : FirstShapeFault mode w rom list f.fault
  pub entry : f.entry ≡ first.entry
  pub known : f.before ≡ known_before (shape_context rom.machine list f.entry) first.fault.items
  pub stands : IsFound (shape_context rom.machine list f.entry) (rom_word rom) first.fault.items f.fault.word f.found

-- if an item is found, the numbers of what the rules see are within the limits of the code: no rule stands here
abbrev pub IsSoundFound : Found → Type 0
IsSoundFound Missing = Unit {0}
IsSoundFound Odd = Unit {0}
IsSoundFound (Seen seen) = IsSoundSeen seen
