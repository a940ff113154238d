-- Where draws move the beam. Places are whole numbers in units of 1/1024 of a screen place.
use Rattle.std.specs.Prelude.{ℕ, ℤ, pos, negsuc, neg_ℤ, suc, ◌+◌, ◌*◌, ◌/◌, ◌%◌, ◌^◌, ◌+ℤ◌, ◌≤ℤ◌, ◌*ℤ◌, nat_le, if◌then◌else◌}
use Rattle.dvg_words.specs.Values.{Machine, Profile, Board, DrawFields, Window}
pub use Rattle.dvg_words.specs.declared.beam.Point.{Point}

-- the effective scale: local plus global scale, modulo 16 (profile)
abbrev pub effective_scale : ℕ → ℕ → ℕ
effective_scale local global = (local + global) % 16

-- the factor of a draw's sizes, 1 to 1024 (profile)
abbrev pub factor : ℕ → ℕ → ℕ
factor local global = if nat_le (effective_scale local global) 9 then 2 ^ (effective_scale local global + 1) else 1

-- the place 0, 0; as a move it leaves the beam where it is
abbrev pub origin : Point
origin = record { x = pos 0; y = pos 0 }

-- the place that a move leads to from a place
abbrev pub shift : Point → Point → Point
shift p d = record { x = p.x +ℤ d.x; y = p.y +ℤ d.y }

-- a distance, rounded half up to whole screen places
abbrev pub rounded : ℕ → ℕ
rounded distance = 1024 * ((distance + 512) / 1024)

-- a move along an axis, its distance rounded
abbrev pub rounded_move : ℤ → ℤ
rounded_move (pos n) = pos (rounded n)
rounded_move (negsuc n) = neg_ℤ (pos (rounded (suc n)))

-- how far a size moves the beam: size times factor (profile); the board rounds that, and has 0 at effective scales over 9 (MAME's DVG)
abbrev pub axis_move : Machine → ℤ → ℕ → ℕ → ℤ
axis_move Profile size local global = size *ℤ pos (factor local global)
axis_move Board size local global =
    if nat_le (effective_scale local global) 9 then rounded_move (size *ℤ pos (factor local global)) else pos 0

-- how far a draw moves the beam
unfoldable pub displacement : Machine → DrawFields → ℕ → Point
displacement machine d global = record { x = axis_move machine d.dx d.lscale global; y = axis_move machine d.dy d.lscale global }

-- twelve bits as two's complement: -2048 to 2047
abbrev pub signed_field : ℕ → ℤ
signed_field field = if nat_le field 2047 then pos field else pos field +ℤ negsuc 4095

-- where a LABS sets the beam on an axis: its field is a screen place, signed on the board (MAME's DVG), here in units of 1/1024
abbrev pub labs_coordinate : Machine → ℕ → ℤ
labs_coordinate Profile field = pos (1024 * field)
labs_coordinate Board field = pos 1024 *ℤ signed_field field

-- where a LABS sets the beam
abbrev pub labs_place : Machine → ℕ → ℕ → Point
labs_place machine x y = record { x = labs_coordinate machine x; y = labs_coordinate machine y }

-- the place is in the window, edges included (profile)
pub record InWindow (w : Window) (p : Point) : Type 0 where
  pub left : (pos 1024 *ℤ w.x_min) ≤ℤ p.x
  pub right : p.x ≤ℤ (pos 1024 *ℤ w.x_max)
  pub bottom : (pos 1024 *ℤ w.y_min) ≤ℤ p.y
  pub top : p.y ≤ℤ (pos 1024 *ℤ w.y_max)

-- the whole screen (profile)
abbrev pub screen : Window
screen = record { x_min = pos 0; x_max = pos 1023; y_min = pos 0; y_max = pos 1023 }

-- neither coordinate is further than this from 0
pub record IsWithin (most : ℕ) (p : Point) : Type 0 where
  pub left : neg_ℤ (pos most) ≤ℤ p.x
  pub right : p.x ≤ℤ pos most
  pub down : neg_ℤ (pos most) ≤ℤ p.y
  pub up : p.y ≤ℤ pos most
