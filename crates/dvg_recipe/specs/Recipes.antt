-- Which frames a recipe describes. All of it is this project's own.
use Rattle.std.specs.Prelude.{◌≡◌, ◌⊎◌, ◌≤◌, ◌≤ℤ◌, ◌*ℤ◌, ℕ, zero, suc, ℤ, pos, true, List, [], ◌∷◌, Contains, Some, IfSome, get_or, false}
use Rattle.dvg_words.specs.declared.machine.Machine.TheVariants.{Board}
use Rattle.dvg_words.specs.declared.instruction.Instr.{Instr}
use Rattle.dvg_words.specs.declared.instruction.Instr.TheVariants.{Draw as Draws, Labs, Halt, Jsrl, Jmpl}
use Rattle.dvg_words.specs.declared.instruction.Format.{Format}
use Rattle.dvg_words.specs.declared.instruction.Cell.TheVariants.{Holds}
use Rattle.dvg_words.specs.declared.beam.Point.{Point}
use Rattle.dvg_words.specs.Beam.{signed_field}
use Rattle.dvg_words.specs.Decoding.{cell_at, cell_of_words}
use Rattle.dvg_words.specs.Generator.{State, Running, Reached, start}
use Rattle.dvg_words.specs.Memory.{Rom, Memory, IsFrame, frame_word}
use Rattle.dvg_items.specs.declared.item.Item.{Item}
use Rattle.dvg_items.specs.declared.item.Kind.TheVariants.{Frame}
use Rattle.dvg_items.specs.Items.{LeadsTo}
pub use Rattle.dvg_recipe.specs.declared.piece.Span.{Span}
pub use Rattle.dvg_recipe.specs.declared.piece.PlaceRange.{PlaceRange}
pub use Rattle.dvg_recipe.specs.declared.piece.PlaceSpan.{PlaceSpan}
pub use Rattle.dvg_recipe.specs.declared.piece.DrawRange.{DrawRange}
pub use Rattle.dvg_recipe.specs.declared.piece.PieceKind.{PieceKind}
pub use Rattle.dvg_recipe.specs.declared.piece.PieceKind.TheVariants.{Place, Call, Draw, Fixed}
pub use Rattle.dvg_recipe.specs.declared.piece.Piece.{Piece}
pub use Rattle.dvg_recipe.specs.declared.recipe.Area.{Area}
pub use Rattle.dvg_recipe.specs.declared.recipe.Part.{Part}
pub use Rattle.dvg_recipe.specs.declared.recipe.Part.TheVariants.{Row, Then', Either', Repeat'}
pub use Rattle.dvg_recipe.specs.declared.recipe.Jump.{Jump}

-- a recipe: where its lists may begin, what stands there up to the first jump, the jumps, and the piece number of its HALT (profile)
pub record Recipe : Type 0 where
  pub lists : List Area
  pub body : Part
  pub jumps : List Jump
  pub halt : ℕ

-- ---- one item

-- the number is in the range, whose ends are included
pub record IsInSpan (range : Span) (z : ℤ) : Type 0 where
  pub low : range.low ≤ℤ z
  pub high : z ≤ℤ range.high

-- a LABS to a place of the rectangle, as the board reads it, at a scale of the set (profile)
abbrev pub TakesPlace : PlaceRange → Instr → Type 0
TakesPlace r (Labs x y scale) = IsInSpan r.x (signed_field x) × IsInSpan r.y (signed_field y) × (get_or r.scales scale false ≡ true)
TakesPlace r i = ⊥

-- a JSRL to one of the word addresses (profile)
abbrev pub TakesCall : List ℕ → Instr → Type 0
TakesCall targets (Jsrl to) = Contains targets to
TakesCall targets i = ⊥

-- a draw of the local scale, with its sizes and its intensity in the ranges (profile)
abbrev pub TakesDraw : DrawRange → Instr → Type 0
TakesDraw r (Draws d) = (d.lscale ≡ r.lscale) × IsInSpan r.dx d.dx × IsInSpan r.dy d.dy × IsInSpan r.bright (pos d.bright)
TakesDraw r i = ⊥

-- the instruction, of this format, is one that the piece allows (profile)
abbrev pub Takes : PieceKind → Format → Instr → Type 0
Takes (Place r) format i = TakesPlace r i
Takes (Call targets) format i = TakesCall targets.items i
Takes (Draw r) format i = (format ≡ r.format) × TakesDraw r i
Takes (Fixed first second) format i = cell_of_words Board (Some first) (Some second) ≡ Holds format i

-- ---- where a draw has to lead

-- the coordinate, in units of 1/1024, is in the range of whole places, whose ends are included
pub record IsPlaceIn (range : Span) (z : ℤ) : Type 0 where
  pub low : (pos 1024 *ℤ range.low) ≤ℤ z
  pub high : z ≤ℤ (pos 1024 *ℤ range.high)

-- the place is in the rectangle
abbrev pub IsPointIn : PlaceSpan → Point → Type 0
IsPointIn to p = IsPlaceIn to.x p.x × IsPlaceIn to.y p.y

-- what is asked of the place behind a frame's items: that it is in a rectangle
abbrev pub Leading : Type 1
Leading = PlaceSpan → List Item → Type 0

-- whenever a run, from any place and scale, is at the word behind a frame's items with no return place stored, the beam is in the
-- rectangle; a run that never is asks nothing (profile)
abbrev pub RunsInto : Memory → Leading
RunsInto m to items =
    (place : Point) (scale steps : ℕ) (s : State) → scale ≤ 15 → Reached m steps (Running (start place scale)) (Running s)
    → LeadsTo Frame (frame_word Board m.frame) 0 items s.pc → s.return_stack ≡ [] → IsPointIn to s.place

-- behind the items is a place to which a draw of the piece may lead (profile)
abbrev pub Arrives : Leading → PieceKind → List Item → Type 0
Arrives into (Draw r) items = IfSome r.to (λ to. into to items)
Arrives into (Place r) items = Unit {0}
Arrives into (Call targets) items = Unit {0}
Arrives into (Fixed first second) items = Unit {0}

-- ---- items one behind the other, the latest first

-- the items are those before and one more, which the piece allows, and which leads to where it has to (profile)
pub record AddsPiece (piece : Piece) (into : Leading) (before after : List Item) : Type 0 where
  pub item : Item
  pub one_more : after ≡ item ∷ before
  pub taken : Takes piece.kind item.format item.instr
  pub arrives : Arrives into piece.kind after

-- the items are those before and one for each of the pieces, in their order (profile)
abbrev pub AddsRow : List Piece → Leading → List Item → List Item → Type 0
AddsRow [] into before after = after ≡ before
AddsRow (piece ∷ row) into before after = (between : List Item) × AddsPiece piece into before between × AddsRow row into between after

-- n times
abbrev pub Times : ℕ → (List Item → List Item → Type 0) → List Item → List Item → Type 0
Times zero Adds before after = after ≡ before
Times (suc n) Adds before after = (between : List Item) × Adds before between × Times n Adds between after

-- the items are those before and some that the part spells (profile)
abbrev pub Spells : Part → Leading → List Item → List Item → Type 0
Spells (Row row) into before after = AddsRow row.items into before after
Spells (Then' p a q b) into before after = (between : List Item) × Spells a into before between × Spells b into between after
Spells (Either' p a q b) into before after = Spells a into before after ⊎ Spells b into before after
Spells (Repeat' least most p body) into before after = (n : ℕ) × (least ≤ n) × (n ≤ most) × Times n (Spells body into) before after

-- ---- frames

-- the items are those before and a JMPL to a word address
pub record AddsJump (to : ℕ) (before after : List Item) : Type 0 where
  pub item : Item
  pub one_more : after ≡ item ∷ before
  pub jumps : item.instr ≡ Jmpl to

-- the items that lead to a list: none if it begins at 000, else the jump to it, which is word 000 (profile)
abbrev pub BeginsAt : ℕ → List Item → Type 0
BeginsAt zero items = items ≡ []
BeginsAt (suc n) items = AddsJump (suc n) [] items

-- the items are those before, and for each jump its JMPL and some that its part spells (profile)
abbrev pub SpellsJumps : List Jump → Leading → List Item → List Item → Type 0
SpellsJumps [] into before after = after ≡ before
SpellsJumps (jump ∷ jumps) into before after =
    (there between : List Item)
    × AddsJump jump.area.first before there × Spells jump.body into there between × SpellsJumps jumps into between after

-- the items of a list of the recipe: those that lead to it, those of its body, and those of its jumps (profile)
pub record SpellsList (into : Leading) (recipe : Recipe) (items : List Item) : Type 0 where
  pub area : Area
  pub listed : Contains recipe.lists area
  pub start : List Item
  pub begins : BeginsAt area.first start
  pub between : List Item
  pub spelled : Spells recipe.body into start between
  pub jumped : SpellsJumps recipe.jumps into between items

-- a frame of the recipe, whose draws lead where they have to: its items from word 000 on, as the board reads them, are those of a list,
-- and a HALT stands behind them; all other words are free (profile)
pub record IsFrameOf (into : Leading) (recipe : Recipe) (words : List ℕ) : Type 0 where
  pub frame : IsFrame words
  pub items : List Item
  pub at : ℕ
  pub format : Format
  pub leads : LeadsTo Frame (frame_word Board words) 0 items at
  pub halts : cell_at (frame_word Board words) at ≡ Holds format Halt
  pub spelled : SpellsList into recipe items

-- a frame of the recipe, by what its runs over the ROM do (profile)
abbrev pub Belongs : Rom → Recipe → List ℕ → Type 0
Belongs rom recipe words = IsFrameOf (RunsInto (record { frame = words; rom = rom })) recipe words
