-- The first fault: the first item that breaks a rule, and the lowest number that it breaks. All of it is this project's own.
use Rattle.dvg_words.specs.Values.{Source}
use Rattle.dvg_words.specs.declared.machine.Machine.{Machine}
use Rattle.std.specs.Prelude.{◌≡◌, ℕ, ◌<◌, List, ◌∷◌, ◌++◌}
use Rattle.std.specs.List.{AllByRecursion}
use Rattle.dvg_words.specs.Values.{Window}
use Rattle.dvg_words.specs.Memory.{Rom, rom_word, frame_word}
use Rattle.dvg_cert.specs.declared.entry.Entry.{Entry}
use Rattle.dvg_items.specs.declared.item.Kind.{Kind}
use Rattle.dvg_items.specs.declared.item.Kind.TheVariants.{Shape, Frame}
use Rattle.dvg_items.specs.declared.item.Item.{Item}
use Rattle.dvg_items.specs.Items.{LeadsTo, AtEachOf}
use Rattle.dvg_check.specs.Rules.{Mode, ShapeWhy, FrameWhy, ShapePlaceKeeps, FramePlaceKeeps, GoodShape}
use Rattle.dvg_check.specs.declared.fault.ShapeWhy.TheVariants as shape
use Rattle.dvg_check.specs.declared.fault.FrameWhy.TheVariants as frame
pub use Rattle.dvg_check.specs.declared.fault.ShapeFault.{ShapeFault}
pub use Rattle.dvg_check.specs.declared.fault.FrameFault.{FrameFault}

-- the number of each rule on an item of a shape
abbrev pub shape_number : ShapeWhy → ℕ
shape_number shape.Unmapped = 20
shape_number shape.Odd = 21
shape_number shape.HaltInShape = 22
shape_number shape.BeamUnknown = 23
shape_number shape.ScaleUnknown = 24
shape_number shape.OffScreen = 25
shape_number shape.NoEntry = 26
shape_number shape.TooDeep = 27
shape_number shape.TooManyWords = 28
shape_number shape.EndDiffers = 29
shape_number shape.ScaleDiffers = 30
shape_number shape.BoxTooSmall = 31
shape_number shape.WordsDiffer = 32
shape_number shape.DepthDiffers = 33

-- the number of each rule on an item of a frame
abbrev pub frame_number : FrameWhy → ℕ
frame_number frame.Unmapped = 40
frame_number frame.Odd = 41
frame_number frame.ReturnInFrame = 42
frame_number frame.BackJump = 43
frame_number frame.BeamUnknown = 44
frame_number frame.ScaleUnknown = 45
frame_number frame.OffScreen = 46
frame_number frame.NoEntry = 47
frame_number frame.Budget = 48

-- the word address of each of these items keeps every rule, after the items before it
abbrev pub AllBefore : {Why : Type 0} → (List Item → ℕ → Why → Type 0) → List Item → Type 0
AllBefore {Why} keeps items = AtEachOf (λ earlier p. (why : Why) → keeps earlier p why) items

-- the first word address that breaks a rule, and the rule of the lowest number that it breaks
pub record FaultAt {Why : Type 0} (order : Why → ℕ) (kind : Kind) (word : Source) (first : ℕ)
    (keeps : List Item → ℕ → Why → Type 0) (at : ℕ) (why : Why) : Type 0 where
  pub items : List Item
  pub leads : LeadsTo kind word first items at
  pub before : AllBefore keeps items
  pub breaks : keeps items at why → ⊥
  pub lowest : (other : Why) → order other < order why → keeps items at other

-- the first fault of an entry's shape
abbrev pub ShapeFaultAt : Mode → Window → Rom → List Entry → Entry → ℕ → ShapeWhy → Type 0
ShapeFaultAt mode w rom list e at why = FaultAt shape_number Shape (rom_word rom) e.addr (ShapePlaceKeeps mode w rom list e) at why

-- the first fault of a certificate: the first fault of the first entry whose shape has one
pub record FirstShapeFault (mode : Mode) (w : Window) (rom : Rom) (list : List Entry) (f : ShapeFault) : Type 0 where
  pub before : List Entry
  pub entry : Entry
  pub after : List Entry
  pub order_is : list ≡ before ++ entry ∷ after
  pub good : AllByRecursion (GoodShape mode w rom list) before
  pub addr : f.addr ≡ entry.addr
  pub key : f.key ≡ entry.key
  pub fault : ShapeFaultAt mode w rom list entry f.word f.why

-- the first fault of a frame
abbrev pub FirstFrameFault : Window → Machine → List ℕ → List Entry → ℕ → FrameFault → Type 0
FirstFrameFault w machine words list budget f =
    FaultAt frame_number Frame (frame_word machine words) 0 (FramePlaceKeeps w machine words list budget) f.word f.why
