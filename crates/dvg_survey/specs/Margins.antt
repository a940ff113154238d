-- How far a box is from each edge of a window. All of it is this project's own.
use Rattle.std.specs.Prelude.{◌≡◌, pos, ◌+ℤ◌}
use Rattle.dvg_cert.specs.declared.entry.LitBox.{LitBox}
use Rattle.dvg_cert.specs.declared.entry.LitBox.TheVariants.{Empty, Span}
use Rattle.dvg_check.specs.declared.leaving.Limits.{Limits}
pub use Rattle.dvg_survey.specs.declared.margins.Margins.{Margins}

-- the box from the least places to the greatest
abbrev pub limits_box : Limits → LitBox
limits_box l = Span l.x_min l.x_max l.y_min l.y_max

-- each side of the box is so far inside the limits; an empty box has none
abbrev pub AreMargins : Limits → LitBox → Margins → Type 0
AreMargins l Empty m = ⊥
AreMargins l (Span x_min x_max y_min y_max) m =
    (x_min ≡ l.x_min +ℤ pos m.left) × (l.x_max ≡ x_max +ℤ pos m.right)
    × (y_min ≡ l.y_min +ℤ pos m.bottom) × (l.y_max ≡ y_max +ℤ pos m.top)
