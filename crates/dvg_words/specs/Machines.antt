-- The laws of the two machines: the profile's is the one of the documents, and the board differs from it by half a place at most.
use Rattle.std.specs.Prelude.{◌≡◌, ℕ, ℤ, pos, neg_ℤ, ◌+◌, ◌*◌, ◌/◌, ◌^◌, ◌≤◌, ◌<◌, ◌+ℤ◌, ◌*ℤ◌, ◌≤ℤ◌}
use Rattle.dvg_words.specs.Values.{Profile, Board, DrawFields}
use Rattle.dvg_words.specs.Beam.{effective_scale, factor, axis_move, displacement, labs_place}

-- on the profile's machine a draw moves by size times factor, and a LABS sets its fields as screen places
pub record ProfileMoves : Type 0 where
  pub draws :
      (d : DrawFields) (global : ℕ)
      → displacement Profile d global ≡ record { x = d.dx *ℤ pos (factor d.lscale global); y = d.dy *ℤ pos (factor d.lscale global) }
  pub labs : (x y : ℕ) → labs_place Profile x y ≡ record { x = pos (1024 * x); y = pos (1024 * y) }

-- on the board a size moves by whole places, rounded half up, the same way for either sign, and by none at effective scales over 9
pub record BoardMoves : Type 0 where
  pub rounds :
      (size local global : ℕ) → effective_scale local global ≤ 9
      → axis_move Board (pos size) local global ≡ pos (1024 * ((size * 2 ^ (effective_scale local global + 1) + 512) / 1024))
  pub either_sign :
      (size local global : ℕ)
      → axis_move Board (neg_ℤ (pos size)) local global ≡ neg_ℤ (axis_move Board (pos size) local global)
  pub stays : (size : ℤ) (local global : ℕ) → 9 < effective_scale local global → axis_move Board size local global ≡ pos 0

-- the one move is at most so far from the other
pub record IsNearMove (most : ℕ) (a b : ℤ) : Type 0 where
  pub low : a ≤ℤ (b +ℤ pos most)
  pub high : b ≤ℤ (a +ℤ pos most)

-- a size moves no further on the one machine than half a place more than on the other, where the effective scale is at most 9
abbrev pub HalfPlace : Type 0
HalfPlace =
    (size : ℤ) (local global : ℕ) → effective_scale local global ≤ 9
    → IsNearMove 512 (axis_move Profile size local global) (axis_move Board size local global)
