-- Which edge of a window a corner of what is lit is past, and by how much. All of it is this project's own.
use Rattle.std.specs.Prelude.{◌≡◌, ℕ, pos, ◌*ℤ◌, ◌-ℤ◌, ◌<ℤ◌, ◌≤ℤ◌, ◌⊎◌, unsigned_abs, List, [], ◌∷◌}
use Rattle.dvg_words.specs.Values.{Window}
use Rattle.dvg_words.specs.declared.beam.Point.{Point}
use Rattle.dvg_cert.specs.declared.entry.End.{End}
use Rattle.dvg_cert.specs.declared.entry.LitBox.{LitBox}
use Rattle.dvg_cert.specs.declared.entry.LitBox.TheVariants.{Empty, Span}
use Rattle.dvg_items.specs.declared.lit.LitExtent.{LitExtent}
use Rattle.dvg_items.specs.Lit.{InSpan, absolute_corners}
pub use Rattle.dvg_check.specs.declared.leaving.Edge.{Edge}
pub use Rattle.dvg_check.specs.declared.leaving.Edge.TheVariants.{Left, Right, Bottom, Top}
pub use Rattle.dvg_check.specs.declared.leaving.Leaving.{Leaving}
pub use Rattle.dvg_check.specs.declared.leaving.BoxLeaving.{BoxLeaving}
pub use Rattle.dvg_check.specs.declared.leaving.BoxLeaving.TheVariants as left
use Rattle.dvg_check.specs.declared.leaving.Limits.{Limits}

-- a window's places, in 1/1024 of a screen place
abbrev pub window_limits : Window → Limits
window_limits w =
    record { x_min = pos 1024 *ℤ w.x_min; x_max = pos 1024 *ℤ w.x_max; y_min = pos 1024 *ℤ w.y_min; y_max = pos 1024 *ℤ w.y_max }

-- the point is past this edge
abbrev pub IsPast : Limits → Edge → Point → Type 0
IsPast l Left p = p.x <ℤ l.x_min
IsPast l Right p = l.x_max <ℤ p.x
IsPast l Bottom p = p.y <ℤ l.y_min
IsPast l Top p = l.y_max <ℤ p.y

-- how far a point is from this edge
abbrev pub distance : Limits → Edge → Point → ℕ
distance l Left p = unsigned_abs (l.x_min -ℤ p.x)
distance l Right p = unsigned_abs (p.x -ℤ l.x_max)
distance l Bottom p = unsigned_abs (l.y_min -ℤ p.y)
distance l Top p = unsigned_abs (p.y -ℤ l.y_max)

-- the point lies within the limits, ends included
abbrev pub InLimits : Limits → Point → Type 0
InLimits l p = InSpan l.x_min l.x_max l.y_min l.y_max p

-- the point is past no edge that comes before this one, in the order left, right, bottom, top
abbrev pub PastNoneBefore : Limits → Edge → Point → Type 0
PastNoneBefore l Left p = Unit {0}
PastNoneBefore l Right p = l.x_min ≤ℤ p.x
PastNoneBefore l Bottom p = (l.x_min ≤ℤ p.x) × (p.x ≤ℤ l.x_max)
PastNoneBefore l Top p = (l.x_min ≤ℤ p.x) × (p.x ≤ℤ l.x_max) × (l.y_min ≤ℤ p.y)

-- the edge is the first that the corner is past, and the number by how much
pub record IsLeft (l : Limits) (leaving : Leaving) : Type 0 where
  pub past : IsPast l leaving.edge leaving.corner
  pub first : PastNoneBefore l leaving.edge leaving.corner
  pub by : leaving.by ≡ distance l leaving.edge leaving.corner

-- the corner is the first of these that is past an edge
abbrev pub FirstLeft : Limits → List Point → Leaving → Type 0
FirstLeft l [] leaving = ⊥
FirstLeft l (p ∷ rest) leaving = ((leaving.corner ≡ p) × IsLeft l leaving) ⊎ (InLimits l p × FirstLeft l rest leaving)

-- the first corner of what is lit at an absolute place that leaves the window
abbrev pub LeavesFrom : Window → LitExtent → End → Leaving → Type 0
LeavesFrom w lit place leaving = FirstLeft (window_limits w) (absolute_corners lit place) leaving

-- the first of these corners where the box is empty, or the first that leaves the box
abbrev pub LeavesBox : LitBox → List Point → BoxLeaving → Type 0
LeavesBox Empty (corner ∷ rest) (left.Empty p) = p ≡ corner
LeavesBox (Span x_min x_max y_min y_max) corners (left.Past leaving) =
    FirstLeft (record { x_min = x_min; x_max = x_max; y_min = y_min; y_max = y_max }) corners leaving
LeavesBox lit corners leaving = ⊥
