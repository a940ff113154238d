-- The verdict on a ROM and a frame by a certificate that was read, under a budget of words, and before that what a frame and a
-- budget are refused for, 2 and 49. By a certificate it is the first that applies of: 1, the first fault of the shapes, the first
-- fault of the frame, accepted. In place of those after 1 it may be 50, that there was no memory for the index. All of it is this
-- project's own.
use Rattle.std.specs.Prelude.{◌≡◌, ℕ, ◌≤◌, List, length, Result, Ok, Err}
use Rattle.dvg_words.specs.Values.{MemoryMap, Window}
use Rattle.dvg_words.specs.declared.machine.Machine.{Machine}
use Rattle.dvg_words.specs.Memory.{Memory, Rom, rom_on, IsRomLength, IsFrameLength}
use Rattle.dvg_words.specs.declared.image.ImageFault.TheVariants.{RomLength, FrameLength}
use Rattle.dvg_cert.specs.declared.entry.Entry.{Entry}
use Rattle.dvg_cert.specs.Order.{Certificate}
use Rattle.dvg_cert.specs.declared.limits.TheConstants.{MOST_WORDS}
use Rattle.dvg_check.specs.Rules.{Mode, Good, GoodFrame}
use Rattle.dvg_check.specs.FirstFault.{FirstShapeFault, FirstFrameFault}
pub use Rattle.dvg_check.specs.declared.verdict.Yes.{Yes}
pub use Rattle.dvg_check.specs.declared.verdict.Refusal.{Refusal}
pub use Rattle.dvg_check.specs.declared.verdict.Refusal.TheVariants as refusal

-- a budget of words: 1 to 1,000,000
pub record IsBudget (budget : ℕ) : Type 0 where
  pub some : 1 ≤ budget
  pub few : budget ≤ MOST_WORDS

-- the number of the frame's bytes and the budget are in range
pub record InRange (frame : List ℕ) (budget : ℕ) : Type 0 where
  pub frame_length : IsFrameLength (length frame)
  pub budget_range : IsBudget budget

-- one of them is out of range: the first that applies of 2 and 49
abbrev pub RangeRefusal : List ℕ → ℕ → Refusal → Type 0
RangeRefusal frame budget (refusal.Image FrameLength) = IsFrameLength (length frame) → ⊥
RangeRefusal frame budget refusal.BudgetRange = IsFrameLength (length frame) × (IsBudget budget → ⊥)
RangeRefusal frame budget r = ⊥

-- the verdict on the shapes of a list and on a frame, or no memory for the index
abbrev pub PartsVerdict : Mode → Window → Rom → List Entry → List ℕ → ℕ → Result Yes Refusal → Type 0
PartsVerdict mode w rom list words budget (Ok y) =
    Good mode w rom list × GoodFrame w rom.machine words list budget y.words y.depth × (y.shapes ≡ length list)
PartsVerdict mode w rom list words budget (Err (refusal.Shape f)) = FirstShapeFault mode w rom list f
PartsVerdict mode w rom list words budget (Err (refusal.Frame f)) = Good mode w rom list × FirstFrameFault w rom.machine words list budget f
PartsVerdict mode w rom list words budget (Err refusal.IndexMemory) = Unit {0}
PartsVerdict mode w rom list words budget (Err r) = ⊥

-- the verdict on a ROM's bytes and a frame by a certificate: 1 if the ROM has not the length of the certificate's map
abbrev pub RomVerdict : Machine → Mode → Window → List ℕ → Certificate → List ℕ → ℕ → Result Yes Refusal → Type 0
RomVerdict machine mode w rom c words budget (Err (refusal.Image RomLength)) = IsRomLength c.map (length rom) → ⊥
RomVerdict machine mode w rom c words budget answer =
    IsRomLength c.map (length rom) × PartsVerdict mode w (rom_on machine c.map rom) c.entries words budget answer

-- a frame of these words, and a ROM of these bytes at a map
abbrev pub memory_on : Machine → MemoryMap → List ℕ → List ℕ → Memory
memory_on machine map words rom = record { frame = words; rom = rom_on machine map rom }
