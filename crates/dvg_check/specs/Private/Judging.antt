-- How the code tests the rules, item by item. No rule stands here.
use Rattle.dvg_words.specs.Values.{Source}
use Rattle.dvg_words.specs.declared.machine.Machine.{Machine}
use Rattle.std.specs.Prelude.{◌≡◌, ℕ, ◌-◌, ◌<◌, List, [], ◌∷◌, take, None}
use Rattle.dvg_words.specs.declared.instruction.Cell.TheVariants.{Holds}
use Rattle.dvg_words.specs.Decoding.{cell_at}
use Rattle.dvg_cert.specs.declared.entry.Entry.{Entry}
use Rattle.dvg_items.specs.declared.item.Kind.{Kind}
use Rattle.dvg_items.specs.declared.item.Item.{Item}
use Rattle.dvg_items.specs.Items.{next_address, LeadsTo}
use Rattle.dvg_items.specs.Known.{Context, target, callee_at, known_before}
use Rattle.dvg_items.specs.declared.known.Known.{Known}
use Rattle.dvg_items.specs.declared.seen.Seen.{Seen}
use Rattle.dvg_items.specs.Seen.{seen_with}
use Rattle.dvg_items.specs.declared.cursor.Step.{Step}
use Rattle.dvg_items.specs.Cursor.{step_past}
use Rattle.dvg_items.specs.Bounds.{IsSoundStep}
use Rattle.dvg_check.specs.Rules.{ShapeWhy, FrameWhy, AllKeep}
use Rattle.dvg_check.specs.FirstFault.{shape_number, frame_number}
use Rattle.dvg_check.specs.declared.fault.ShapeWhy.TheVariants as shape
use Rattle.dvg_check.specs.declared.fault.FrameWhy.TheVariants as frame

-- what the rules see of an item, by the entries of a list
abbrev pub seen_by : Machine → List Entry → Kind → Known → Item → Seen
seen_by machine list kind before i = seen_with machine (callee_at list (target kind i.instr) before.scale) before i

-- ---- rules in the order in which the code tests them

-- each of these rules is kept
abbrev pub EachKept : {Why : Type 0} → (Why → Type 0) → List Why → Type 0
EachKept K [] = Unit {0}
EachKept K (why ∷ rest) = K why × EachKept K rest

-- the rules on an item of a frame, by their numbers
abbrev pub frame_rules : List FrameWhy
frame_rules =
    frame.Unmapped ∷ frame.Odd ∷ frame.ReturnInFrame ∷ frame.BackJump ∷ frame.BeamUnknown ∷ frame.ScaleUnknown ∷ frame.OffScreen
    ∷ frame.NoEntry ∷ frame.Budget ∷ []

-- the index of a rule among these
abbrev pub frame_index : FrameWhy → ℕ
frame_index why = frame_number why - 40

-- the rules on an item of a shape, by their numbers
abbrev pub shape_rules : List ShapeWhy
shape_rules =
    shape.Unmapped ∷ shape.Odd ∷ shape.HaltInShape ∷ shape.BeamUnknown ∷ shape.ScaleUnknown ∷ shape.OffScreen ∷ shape.NoEntry
    ∷ shape.TooDeep ∷ shape.TooManyWords ∷ shape.EndDiffers ∷ shape.ScaleDiffers ∷ shape.BoxTooSmall ∷ shape.WordsDiffer
    ∷ shape.DepthDiffers ∷ []

-- the index of a rule among these
abbrev pub shape_index : ShapeWhy → ℕ
shape_index why = shape_number why - 20

-- this rule is broken, and each rule before it is kept
abbrev pub FrameBrokenFirst : (FrameWhy → Type 0) → FrameWhy → Type 0
FrameBrokenFirst K why = EachKept K (take (frame_index why) frame_rules) × (K why → ⊥)

-- this rule of a shape is broken, and each rule before it is kept
abbrev pub ShapeBrokenFirst : (ShapeWhy → Type 0) → ShapeWhy → Type 0
ShapeBrokenFirst K why = EachKept K (take (shape_index why) shape_rules) × (K why → ⊥)

-- ---- one item

-- every rule is kept, and this is where the item leads
pub record KeepsAll {Why : Type 0} (Keeps : Seen → Why → Type 0) (kind : Kind) (v : Seen) (step : Step) : Type 0 where
  pub kept : (why : Why) → Keeps v why
  pub leads : step ≡ step_past kind v
  pub sound : IsSoundStep step

-- this rule is broken, and each rule of a lower number is kept
pub record BreaksFirst {Why : Type 0} (order : Why → ℕ) (Keeps : Seen → Why → Type 0) (v : Seen) (why : Why) : Type 0 where
  pub broken : Keeps v why → ⊥
  pub lowest : (other : Why) → order other < order why → Keeps v other

-- ---- a walk over all items

-- every rule is kept, and this is known after the last item
pub record WalksTo {Why : Type 0} (c : Context) (word : Source) (first : ℕ) (keeps : List Item → ℕ → Why → Type 0)
    (known : Known) : Type 0 where
  pub keeps_all : AllKeep c.kind word first keeps
  pub items : List Item
  pub last : Item
  pub leads : LeadsTo c.kind word first items last.at
  pub stands : cell_at word last.at ≡ Holds last.format last.instr
  pub ends : next_address c.kind last ≡ None
  pub knows : known ≡ known_before c (last ∷ items)
