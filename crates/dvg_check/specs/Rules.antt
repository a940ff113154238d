-- The rules on one item, one by one: what an item must keep. All of it is this project's own.
use Rattle.dvg_words.specs.Values.{Source}
use Rattle.dvg_words.specs.declared.machine.Machine.{Machine}
use Rattle.std.specs.Prelude.{◌≡◌, ◌≢◌, ℕ, ◌+◌, ◌≤◌, ◌<◌, List, Option, Some, None, Contains}
use Rattle.dvg_words.specs.Values.{Window}
use Rattle.dvg_words.specs.declared.instruction.Instr.TheVariants.{Halt, Rtsl, Jmpl}
use Rattle.dvg_words.specs.declared.instruction.Instr.{Instr}
use Rattle.dvg_words.specs.declared.instruction.Cell.{Cell}
use Rattle.dvg_words.specs.declared.instruction.Cell.TheVariants.{Missing, Odd, Holds}
use Rattle.dvg_words.specs.declared.instruction.Format.{Format}
use Rattle.dvg_words.specs.Decoding.{word_count, cell_at}
use Rattle.dvg_words.specs.Memory.{Rom, rom_word, frame_word}
use Rattle.dvg_cert.specs.declared.entry.Entry.{Entry}
use Rattle.dvg_items.specs.declared.item.Kind.{Kind}
use Rattle.dvg_items.specs.declared.item.Kind.TheVariants.{Shape, Frame}
use Rattle.dvg_items.specs.declared.item.Item.{Item}
use Rattle.dvg_items.specs.Items.{next_address, LeadsTo}
use Rattle.dvg_items.specs.Known.{Context, shape_context, frame_context, target, words_before, depth_under, depth_before}
use Rattle.dvg_items.specs.Seen.{HasCallee, seen_at}
use Rattle.dvg_items.specs.Lit.{PlaceKnown, ScaleKnown, LitInWindow, LitInBox}
pub use Rattle.dvg_items.specs.declared.seen.Seen.{Seen}
pub use Rattle.dvg_check.specs.declared.fault.Mode.{Mode}
pub use Rattle.dvg_check.specs.declared.fault.Mode.TheVariants.{Bound, Exact}
pub use Rattle.dvg_check.specs.declared.fault.ShapeWhy.{ShapeWhy}
pub use Rattle.dvg_check.specs.declared.fault.ShapeWhy.TheVariants as shape
pub use Rattle.dvg_check.specs.declared.fault.FrameWhy.{FrameWhy}
pub use Rattle.dvg_check.specs.declared.fault.FrameWhy.TheVariants as frame

-- if there is no next item, P holds
abbrev pub AtLast : Option ℕ → Type 0 → Type 0
AtLast None P = P
AtLast (Some next) P = Unit {0}

-- in the mode Exact, the count is the claimed one
abbrev pub AsClaimed : Mode → ℕ → ℕ → Type 0
AsClaimed Bound n claimed = Unit {0}
AsClaimed Exact n claimed = n ≡ claimed

-- a jump at this word address leads to a higher one
abbrev pub IsForward : ℕ → Instr → Type 0
IsForward at (Jmpl to) = at < to
IsForward at i = Unit {0}

-- what an item of an entry's shape keeps by each rule; CellKeeps says that it is there and not odd
abbrev pub ShapeKeeps : Mode → Window → Entry → Seen → ShapeWhy → Type 0
ShapeKeeps mode w e v shape.Unmapped = Unit {0}
ShapeKeeps mode w e v shape.Odd = Unit {0}
ShapeKeeps mode w e v shape.HaltInShape = v.item.instr ≢ Halt
ShapeKeeps mode w e v shape.BeamUnknown = PlaceKnown v.extent v.place
ShapeKeeps mode w e v shape.ScaleUnknown = ScaleKnown v.extent
ShapeKeeps mode w e v shape.OffScreen = LitInWindow w v.extent v.place
ShapeKeeps mode w e v shape.NoEntry = HasCallee (target Shape v.item.instr) v.callee
ShapeKeeps mode w e v shape.TooDeep = depth_under v.item.instr v.callee ≤ e.depth
ShapeKeeps mode w e v shape.TooManyWords = v.after.words ≤ e.words
ShapeKeeps mode w e v shape.EndDiffers = AtLast (next_address Shape v.item) (v.after.place ≡ e.stop)
ShapeKeeps mode w e v shape.ScaleDiffers = AtLast (next_address Shape v.item) (v.after.scale ≡ e.scale)
ShapeKeeps mode w e v shape.BoxTooSmall = LitInBox e.lit v.extent v.place
ShapeKeeps mode w e v shape.WordsDiffer = AtLast (next_address Shape v.item) (AsClaimed mode v.after.words e.words)
ShapeKeeps mode w e v shape.DepthDiffers = AtLast (next_address Shape v.item) (AsClaimed mode v.after.depth e.depth)

-- what an item of a frame keeps by each rule
abbrev pub FrameKeeps : Window → ℕ → Seen → FrameWhy → Type 0
FrameKeeps w budget v frame.Unmapped = Unit {0}
FrameKeeps w budget v frame.Odd = Unit {0}
FrameKeeps w budget v frame.ReturnInFrame = v.item.instr ≢ Rtsl
FrameKeeps w budget v frame.BackJump = IsForward v.item.at v.item.instr
FrameKeeps w budget v frame.BeamUnknown = PlaceKnown v.extent v.place
FrameKeeps w budget v frame.ScaleUnknown = ScaleKnown v.extent
FrameKeeps w budget v frame.OffScreen = LitInWindow w v.extent v.place
FrameKeeps w budget v frame.NoEntry = HasCallee (target Frame v.item.instr) v.callee
FrameKeeps w budget v frame.Budget = v.after.words ≤ budget

-- a missing cell breaks the rule `missing`, an odd LABS breaks the rule `odd`, and an item keeps a rule as `keeps` says
abbrev pub CellKeeps : {Why : Type 0} → Why → Why → (Item → Why → Type 0) → ℕ → Cell → Why → Type 0
CellKeeps missing odd keeps at Missing why = why ≢ missing
CellKeeps missing odd keeps at Odd why = why ≢ odd
CellKeeps missing odd keeps at (Holds format i) why = keeps (record { at = at; format = format; instr = i }) why

-- the cell at a word address keeps a rule, after these items
abbrev pub PlaceKeeps : {Why : Type 0} → Why → Why → (Seen → Why → Type 0) → Context → Source → List Item → ℕ → Why → Type 0
PlaceKeeps missing odd keeps c word earlier p why = CellKeeps missing odd (λ i. keeps (seen_at c earlier i)) p (cell_at word p) why

-- the cell at a word address of an entry's shape keeps a rule, after these items
abbrev pub ShapePlaceKeeps : Mode → Window → Rom → List Entry → Entry → List Item → ℕ → ShapeWhy → Type 0
ShapePlaceKeeps mode w rom list e =
    PlaceKeeps shape.Unmapped shape.Odd (ShapeKeeps mode w e) (shape_context rom.machine list e) (rom_word rom)

-- the cell at a word address of a frame keeps a rule, after these items
abbrev pub FramePlaceKeeps : Window → Machine → List ℕ → List Entry → ℕ → List Item → ℕ → FrameWhy → Type 0
FramePlaceKeeps w machine words list budget =
    PlaceKeeps frame.Unmapped frame.Odd (FrameKeeps w budget) (frame_context machine list) (frame_word machine words)

-- every word address that items lead to keeps every rule
abbrev pub AllKeep : {Why : Type 0} → Kind → Source → ℕ → (List Item → ℕ → Why → Type 0) → Type 0
AllKeep {Why} kind word first keeps = (earlier : List Item) (p : ℕ) → LeadsTo kind word first earlier p → (why : Why) → keeps earlier p why

-- an entry's shape keeps all rules
abbrev pub GoodShape : Mode → Window → Rom → List Entry → Entry → Type 0
GoodShape mode w rom list e = AllKeep Shape (rom_word rom) e.addr (ShapePlaceKeeps mode w rom list e)

-- all shapes of a certificate keep all rules
abbrev pub Good : Mode → Window → Rom → List Entry → Type 0
Good mode w rom list = (e : Entry) → Contains list e → GoodShape mode w rom list e

-- a frame keeps all rules; `count` is its words, that of its HALT included, and `depth` its depth
pub record GoodFrame (w : Window) (machine : Machine) (words : List ℕ) (list : List Entry) (budget count depth : ℕ) : Type 0 where
  pub keeps : AllKeep Frame (frame_word machine words) 0 (FramePlaceKeeps w machine words list budget)
  pub items : List Item
  pub at : ℕ
  pub format : Format
  pub leads : LeadsTo Frame (frame_word machine words) 0 items at
  pub halts : cell_at (frame_word machine words) at ≡ Holds format Halt
  pub count_is : count ≡ words_before (frame_context machine list) items + word_count format
  pub depth_is : depth ≡ depth_before (frame_context machine list) items
