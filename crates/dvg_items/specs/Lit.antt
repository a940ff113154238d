-- What an item lights, and where that may be. All of it is this project's own but for intensity 0, which is dark (DVG documentation).
use Rattle.std.specs.Prelude.{◌≢◌, ℕ, zero, suc, ℤ, ◌≤ℤ◌, List, [], ◌∷◌, Option, Some, None}
use Rattle.std.specs.List.{AllByRecursion}
use Rattle.dvg_words.specs.Values.{DrawFields, Window}
use Rattle.dvg_words.specs.declared.instruction.Instr.TheVariants.{Draw as Draws, Labs, Halt, Jsrl, Rtsl, Jmpl}
use Rattle.dvg_words.specs.declared.instruction.Instr.{Instr}
use Rattle.dvg_words.specs.declared.beam.Point.{Point}
use Rattle.dvg_words.specs.declared.machine.Machine.{Machine}
use Rattle.dvg_words.specs.Beam.{origin, shift, displacement, InWindow}
use Rattle.dvg_cert.specs.declared.entry.Key.{Key}
use Rattle.dvg_cert.specs.declared.entry.Key.TheVariants.{At, Any}
use Rattle.dvg_cert.specs.declared.entry.End.{End}
use Rattle.dvg_cert.specs.declared.entry.End.TheVariants.{Rel, Abs, Lost}
use Rattle.dvg_cert.specs.declared.entry.LitBox.{LitBox}
use Rattle.dvg_cert.specs.declared.entry.LitBox.TheVariants.{Empty, Span}
use Rattle.dvg_cert.specs.declared.entry.Entry.{Entry}
pub use Rattle.dvg_items.specs.declared.lit.LitExtent.{LitExtent}
pub use Rattle.dvg_items.specs.declared.lit.LitExtent.TheVariants.{Nothing, Between, Anywhere}

-- seen from the place before it, a lit draw lights what lies between its ends; intensity 0 is dark
abbrev pub draw_extent : Machine → ℕ → DrawFields → Key → LitExtent
draw_extent machine zero d scale = Nothing
draw_extent machine (suc n) d (At gscale) = Between origin (displacement machine d gscale)
draw_extent machine (suc n) d Any = Anywhere

-- a called shape lights what lies between the corners of its box
abbrev pub box_extent : LitBox → LitExtent
box_extent Empty = Nothing
box_extent (Span x_min x_max y_min y_max) = Between (record { x = x_min; y = y_min }) (record { x = x_max; y = y_max })

-- what a call or tail jump lights; nothing without an entry
abbrev pub callee_extent : Option Entry → LitExtent
callee_extent None = Nothing
callee_extent (Some e) = box_extent e.lit

-- what an instruction lights, with the entry that it calls
abbrev pub extent_of : Machine → Instr → Key → Option Entry → LitExtent
extent_of machine (Draws d) scale named = draw_extent machine d.bright d scale
extent_of machine (Labs x y gscale) scale named = Nothing
extent_of machine Halt scale named = Nothing
extent_of machine Rtsl scale named = Nothing
extent_of machine (Jsrl to) scale named = callee_extent named
extent_of machine (Jmpl to) scale named = callee_extent named

-- ---- what a place and a box allow

-- if something is lit, the place is known
abbrev pub PlaceKnown : LitExtent → End → Type 0
PlaceKnown Nothing place = Unit {0}
PlaceKnown (Between a b) place = place ≢ Lost
PlaceKnown Anywhere place = place ≢ Lost

-- if something is lit, the scale is known
abbrev pub ScaleKnown : LitExtent → Type 0
ScaleKnown Nothing = Unit {0}
ScaleKnown (Between a b) = Unit {0}
ScaleKnown Anywhere = ⊥

-- both corners of what is lit from a place
abbrev pub corners : LitExtent → Point → List Point
corners Nothing p = []
corners (Between a b) p = shift p a ∷ shift p b ∷ []
corners Anywhere p = []

-- both corners of what is lit at an absolute place
abbrev pub absolute_corners : LitExtent → End → List Point
absolute_corners lit (Rel x y) = []
absolute_corners lit (Abs x y) = corners lit (record { x = x; y = y })
absolute_corners lit Lost = []

-- both corners of what is lit at a relative place
abbrev pub relative_corners : LitExtent → End → List Point
relative_corners lit (Rel x y) = corners lit (record { x = x; y = y })
relative_corners lit (Abs x y) = []
relative_corners lit Lost = []

-- the point lies between these coordinates, ends included
pub record InSpan (x_min x_max y_min y_max : ℤ) (p : Point) : Type 0 where
  pub left : x_min ≤ℤ p.x
  pub right : p.x ≤ℤ x_max
  pub bottom : y_min ≤ℤ p.y
  pub top : p.y ≤ℤ y_max

-- the point is in the box; no point is in the empty box
abbrev pub InBox : LitBox → Point → Type 0
InBox Empty p = ⊥
InBox (Span x_min x_max y_min y_max) p = InSpan x_min x_max y_min y_max p

-- what is lit at an absolute place lies in the window
abbrev pub LitInWindow : Window → LitExtent → End → Type 0
LitInWindow w lit place = AllByRecursion (InWindow w) (absolute_corners lit place)

-- what is lit at a relative place lies in the box
abbrev pub LitInBox : LitBox → LitExtent → End → Type 0
LitInBox box lit place = AllByRecursion (InBox box) (relative_corners lit place)

-- the first box lies in the second
abbrev pub IsInside : LitBox → LitBox → Type 0
IsInside Empty outer = Unit {0}
IsInside (Span x_min x_max y_min y_max) Empty = ⊥
IsInside (Span x_min x_max y_min y_max) (Span left right bottom top) =
    (left ≤ℤ x_min) × (x_max ≤ℤ right) × (bottom ≤ℤ y_min) × (y_max ≤ℤ top)
