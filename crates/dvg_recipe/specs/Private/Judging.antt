-- How a recipe is judged: what leads from hulls to hulls, item by item and part by part.
use Rattle.std.specs.Prelude.{◌≡◌, ℕ, ◌+◌, ◌≤◌, List, [], ◌∷◌, Contains, Option, None, IfSome}
use Rattle.dvg_words.specs.Values.{Window, DrawFields}
use Rattle.dvg_cert.specs.declared.entry.End.{End}
use Rattle.dvg_cert.specs.declared.entry.End.TheVariants.{Rel, Abs, Lost}
use Rattle.dvg_words.specs.declared.machine.Machine.TheVariants.{Board}
use Rattle.dvg_words.specs.declared.instruction.Instr.TheVariants.{Draw as Draws, Jmpl}
use Rattle.dvg_words.specs.Memory.{Rom, frame_word}
use Rattle.dvg_cert.specs.declared.entry.Entry.{Entry}
use Rattle.dvg_items.specs.declared.item.Item.{Item}
use Rattle.dvg_items.specs.declared.item.Kind.TheVariants.{Frame}
use Rattle.dvg_items.specs.Items.{LeadsTo, AtEachOf}
use Rattle.dvg_items.specs.declared.known.Known.{Known}
use Rattle.dvg_items.specs.Known.{frame_context, known_before, known_past}
use Rattle.dvg_make.specs.Made.{AllMade}
use Rattle.dvg_check.specs.declared.fault.FrameWhy.{FrameWhy}
use Rattle.dvg_check.specs.Rules.{FramePlaceKeeps, Good, GoodFrame}
use Rattle.dvg_check.specs.declared.fault.Mode.TheVariants.{Exact}
use Rattle.dvg_items.specs.Bounds.{IsSomeCertificate}
use Rattle.dvg_recipe.specs.Limits.{PartFits}
use Rattle.dvg_recipe.specs.Recipes.{PieceKind, PlaceSpan, Place, Call, Draw, Fixed, Takes, IsPlaceIn, Leading, Times, Area, BeginsAt, AddsJump, Part, Jump, Recipe, SpellsList, IsFrameOf}
use Rattle.dvg_recipe.specs.Members.{ComesTo}
use Rattle.dvg_recipe.specs.Private.Hulls.{Hull, Covers}

-- what adds items to those before, where draws lead as they have to
abbrev pub Adds : Type 1
Adds = Leading → List Item → List Item → Type 0

-- one and then the other
abbrev pub Both : Adds → Adds → Adds
Both R S into before after = (between : List Item) × R into before between × S into between after

-- n times
abbrev pub TimesOver : ℕ → Adds → Adds
TimesOver n R into before after = Times n (R into) before after

-- between so many turns and so many
abbrev pub Turns : ℕ → ℕ → Adds → Adds
Turns least most R into before after = (n : ℕ) × (least ≤ n) × (n ≤ most) × Times n (R into) before after

-- a JMPL to a word address
abbrev pub AddsJumpTo : ℕ → Adds
AddsJumpTo to into before after = AddsJump to before after

-- the place is not known to be outside the rectangle
abbrev pub IsNotBeside : PlaceSpan → End → Type 0
IsNotBeside to (Rel x y) = Unit {0}
IsNotBeside to (Abs x y) = IsPlaceIn to.x x × IsPlaceIn to.y y
IsNotBeside to Lost = Unit {0}

-- a draw of the piece does not lead from what is known to a place that is known to be beside where it has to lead
abbrev pub LeadsIn : PieceKind → Known → Item → Type 0
LeadsIn (Draw r) known i = IfSome r.to (λ to. IsNotBeside to (known_past Board i None known).place)
LeadsIn (Place r) known i = Unit {0}
LeadsIn (Call targets) known i = Unit {0}
LeadsIn (Fixed first second) known i = Unit {0}

-- the item is one that the piece allows, and leads so from what is known
abbrev pub IsTaken : PieceKind → Known → Item → Type 0
IsTaken kind known i = Takes kind i.format i.instr × LeadsIn kind known i

-- the item is a JMPL to some word address
abbrev pub IsJump : Known → Item → Type 0
IsJump known i = (to : ℕ) × (i.instr ≡ Jmpl to)

-- the items lead from word 000 of a frame to some word address
abbrev pub IsFront : List ℕ → List Item → Type 0
IsFront words items = (p : ℕ) × LeadsTo Frame (frame_word Board words) 0 items p

-- what adds items to a front of a frame adds them to a shorter one
pub record Extends (R : Adds) : Type 1 where
  pub front : (into : Leading) (words : List ℕ) (before after : List Item) → R into before after → IsFront words after → IsFront words before

-- what is known behind the items is known by each list of made entries
abbrev pub IsKnownAlike : List Entry → List Item → Type 0
IsKnownAlike list items = (rom : Rom) → AllMade rom list → ComesTo rom items (known_before (frame_context Board list) items)

-- each of the items keeps all rules, one of the hulls has what is known behind them, and it is known by all lists of made entries, as it
-- is before each of them
pub record IsGoodFront (w : Window) (list : List Entry) (budget : ℕ) (hulls : List Hull) (words : List ℕ) (items : List Item) : Type 0 where
  pub covered : Covers hulls (known_before (frame_context Board list) items)
  pub comes : IsKnownAlike list items
  pub each : AtEachOf (λ earlier p. IsKnownAlike list earlier) items
  pub kept : AtEachOf (λ earlier p. (why : FrameWhy) → FramePlaceKeeps w Board words list budget earlier p why) items

-- so is a front without the hulls
pub record IsSoundFront (w : Window) (list : List Entry) (budget : ℕ) (words : List ℕ) (items : List Item) : Type 0 where
  pub comes : IsKnownAlike list items
  pub kept : AtEachOf (λ earlier p. (why : FrameWhy) → FramePlaceKeeps w Board words list budget earlier p why) items

-- a draw behind a sound front does not lead to a place that is known to be beside the rectangle
abbrev pub KnownInto : Window → List Entry → ℕ → List ℕ → Leading
KnownInto w list budget words to [] = Unit {0}
KnownInto w list budget words to (i ∷ before) =
    (d : DrawFields) → i.instr ≡ Draws d → IsFront words (i ∷ before) → IsSoundFront w list budget words before
    → IsNotBeside to (known_past Board i None (known_before (frame_context Board list) before)).place

-- what adds items leads from good fronts to good fronts, if no draw is known to lead to where it has not to
pub record Carries (w : Window) (list : List Entry) (budget : ℕ) (R : Adds) (here next : List Hull) : Type 0 where
  pub each :
      (words : List ℕ) (before after : List Item) → R (KnownInto w list budget words) before after → IsFront words after
      → IsGoodFront w list budget here words before → IsGoodFront w list budget next words after

-- if there is no fault now, there was none before, and the statement holds
abbrev pub IfFine : {X : Type 0} → Option X → Option X → Type 0 → Type 0
IfFine old new T = new ≡ None → (old ≡ None) × T

-- the part is one of a recipe's
abbrev pub IsWithin : Part → Type 0
IsWithin part = (levels nested : ℕ) × PartFits levels nested part

-- so is that of each of the jumps
pub record AreWithin (jumps : List Jump) : Type 0 where
  pub each : (jump : Jump) → Contains jumps jump → IsWithin jump.body

-- the hull has what is known at word 000 of a frame
abbrev pub IsFirst : Hull → Type 0
IsFirst h = Covers (h ∷ []) (known_before (frame_context Board []) [])

-- the items that lead to a list of one of these areas
abbrev pub BeginsAtOne : List Area → List Item → Type 0
BeginsAtOne areas items = (area : Area) × Contains areas area × BeginsAt area.first items

-- all that lead to a list are good fronts
pub record AreListStarts (w : Window) (list : List Entry) (budget : ℕ) (areas : List Area) (next : List Hull) : Type 0 where
  pub each : (words : List ℕ) (items : List Item) → BeginsAtOne areas items → IsFront words items
      → IsGoodFront w list budget next words items

-- all items of a recipe's lists are good fronts, if no draw is known to lead to where it has not to
pub record AreGoodMembers (w : Window) (list : List Entry) (budget : ℕ) (recipe : Recipe) (ends : List Hull) : Type 0 where
  pub each :
      (words : List ℕ) (items : List Item) → SpellsList (KnownInto w list budget words) recipe items → IsFront words items
      → IsGoodFront w list budget ends words items

-- with the HALT behind it, what the hull has is no more than these counts
pub record IsCounted (words depth : ℕ) (h : Hull) : Type 0 where
  pub count : 1 + h.words ≤ words
  pub shallow : h.depth ≤ depth

-- the frame keeps all rules, and these are its items up to its HALT
pub record IsGoodList (w : Window) (list : List Entry) (budget : ℕ) (frame : List ℕ) (items : List Item) : Type 0 where
  pub words : ℕ
  pub depth : ℕ
  pub good : GoodFrame w Board frame list budget words depth
  pub are : good.items ≡ items

-- the entries are made, their shapes are good, and over them so is each frame of the recipe, if no draw of it is known to lead to where
-- it has not to
pub record AreGoodFrames (rom : Rom) (recipe : Recipe) (w : Window) (list : List Entry) (budget : ℕ) : Type 0 where
  pub certificate : IsSomeCertificate list
  pub made : AllMade rom list
  pub shapes : Good Exact w rom list
  pub frames : (frame : List ℕ) (b : IsFrameOf (KnownInto w list budget frame) recipe frame) → IsGoodList w list budget frame b.items
