-- Strokes over the screen's edges, count by count: ten places to the right, by X 640 at effective scale 3.
use Rattle.std.specs.Prelude.{◌≡◌, ℕ, ℤ, pos, negsuc, ◌*ℤ◌, List, [], ◌∷◌, ◌++◌, map}
use Rattle.std.specs.List.{AllByRecursion}
use Rattle.dvg_words.specs.Values.{DrawFields, clipped}
use Rattle.dvg_words.specs.declared.beam.Point.{Point}
use Rattle.dvg_words.specs.Beam.{InWindow}
use Rattle.dvg_circuit.specs.Counters.{Counters, IsShown, passed}
use Rattle.dvg_circuit.specs.Laws.{twelve_bits}

-- 640 is 1010000000 in binary: of 16 counts each even one has a pulse, and 3 and 11
abbrev pub ten_right : DrawFields
ten_right = record { dx = pos 640; dy = pos 0; lscale = 3; bright = 7 }

-- the counters in row 100, at these of X
abbrev pub in_row : List ℕ → List Counters
in_row = map (λ x. record { x = x; y = 100 })

-- all of these are shown
abbrev pub AreShown : List Counters → Type 0
AreShown = AllByRecursion IsShown

-- all of these are blanked
abbrev pub AreBlanked : List Counters → Type 0
AreBlanked = AllByRecursion (λ c. IsShown c → ⊥)

-- from -5 to 5: the counter is at 4091 to 4095, which is blanked, and then at 0 to 5, which is shown
abbrev pub left_of_screen : List Counters
left_of_screen = in_row (4091 ∷ 4092 ∷ 4092 ∷ 4093 ∷ 4094 ∷ 4095 ∷ 4095 ∷ [])

-- the counts of it that are shown
abbrev pub at_left_edge : List Counters
at_left_edge = in_row (0 ∷ 0 ∷ 1 ∷ 1 ∷ 2 ∷ 3 ∷ 4 ∷ 4 ∷ 5 ∷ 5 ∷ [])

-- from 1020 to 1030: shown to 1023, and blanked from 1024 on
abbrev pub at_right_edge : List Counters
at_right_edge = in_row (1020 ∷ 1021 ∷ 1021 ∷ 1022 ∷ 1023 ∷ [])

-- the counts of it that are blanked
abbrev pub right_of_screen : List Counters
right_of_screen = in_row (1024 ∷ 1024 ∷ 1025 ∷ 1025 ∷ 1026 ∷ 1026 ∷ 1027 ∷ 1028 ∷ 1029 ∷ 1029 ∷ 1030 ∷ 1030 ∷ [])

-- places in row 100, in units of 1/1024
abbrev pub place_at : ℤ → Point
place_at x = record { x = pos 1024 *ℤ x; y = pos 1024 *ℤ pos 100 }

-- a draw that comes in at the left edge, and one that leaves at the right, count by count
pub record WorkedClips : Type 0 where
  pub from_left : passed ten_right (record { x = twelve_bits (negsuc 4); y = 100 }) 16 ≡ left_of_screen ++ at_left_edge
  pub left_blanked : AreBlanked left_of_screen
  pub left_shown : AreShown at_left_edge
  pub to_right : passed ten_right (record { x = 1020; y = 100 }) 16 ≡ at_right_edge ++ right_of_screen
  pub right_shown : AreShown at_right_edge
  pub right_blanked : AreBlanked right_of_screen
  -- from -1025 to -1: its end lies in the zone, and its beginning does not, where the counter is at 3071 and the board shows a ghost
  pub end_in_zone : InWindow clipped (place_at (negsuc 0))
  pub not_in_zone : InWindow clipped (place_at (negsuc 1024)) → ⊥
  pub ghost_shown : IsShown (record { x = twelve_bits (negsuc 1024); y = 100 })
