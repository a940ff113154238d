-- Whole places from which a distance leads no further than to a screen place, and those at which a box lies in the window.
use Rattle.dvg_survey.proofs.Common.{◌≡◌, pos, arith, int_div_euclid, Entry, LitBox, Span, Seen, ℤ, ◌+ℤ◌, ◌*ℤ◌, ◌≤ℤ◌, ◌↔◌, ints, Window, IsBox, LitInWindow, box_extent, CallPlaces, HasPlace, IsCallAt, whole_place}

pub quotient : (d : ℤ) → ((pos 1024 *ℤ int_div_euclid d (pos 1024)) ≤ℤ d) × (d ≤ℤ ((pos 1024 *ℤ int_div_euclid d (pos 1024)) +ℤ pos 1023))
quotient d = grind (arith, ints)

-- ---- a box

-- the ranges of the places at which a box lies in a window
module _ (w : Window) (x_low x_high y_low y_high a b c d x_min x_max y_min y_max : ℤ) (x_min_is : x_min ≡ w.x_min)
    (x_max_is : x_max ≡ w.x_max) (y_min_is : y_min ≡ w.y_min) (y_max_is : y_max ≡ w.y_max)
    (left : (x : ℤ) → (a ≤ℤ x) ↔ ((pos 1024 *ℤ x_min) ≤ℤ ((pos 1024 *ℤ x) +ℤ x_low)))
    (right : (x : ℤ) → (x ≤ℤ b) ↔ (((pos 1024 *ℤ x) +ℤ x_high) ≤ℤ (pos 1024 *ℤ x_max)))
    (bottom : (y : ℤ) → (c ≤ℤ y) ↔ ((pos 1024 *ℤ y_min) ≤ℤ ((pos 1024 *ℤ y) +ℤ y_low)))
    (top : (y : ℤ) → (y ≤ℤ d) ↔ (((pos 1024 *ℤ y) +ℤ y_high) ≤ℤ (pos 1024 *ℤ y_max)))
    (box : IsBox (Span x_low x_high y_low y_high)) (x y : ℤ) where
  abbrev InRanges : Type 0
  InRanges = (a ≤ℤ x) × (x ≤ℤ b) × (c ≤ℤ y) × (y ≤ℤ d)

  in_ranges : InRanges → LitInWindow w (box_extent (Span x_low x_high y_low y_high)) (whole_place x y)
  in_ranges h = grind (arith, ints, (left x), (right x), (bottom y), (top y))

  ranges_in : LitInWindow w (box_extent (Span x_low x_high y_low y_high)) (whole_place x y) → InRanges
  ranges_in h = grind (arith, ints, (left x), (right x), (bottom y), (top y))

  pub box_places : (places : CallPlaces) (lit : LitBox) → lit ≡ Span x_low x_high y_low y_high → HasPlace places x y ↔ InRanges
      → HasPlace places x y ↔ LitInWindow w (box_extent lit) (whole_place x y)
  box_places places lit is h = grind (arith, in_ranges, ranges_in)

-- a call that is seen there
pub seen_places : (w : Window) (places : CallPlaces) (lit : LitBox) (e : Entry) (v : Seen) (x y : ℤ) → e.lit ≡ lit → IsCallAt e x y v
    → HasPlace places x y ↔ LitInWindow w (box_extent lit) (whole_place x y) → HasPlace places x y ↔ LitInWindow w v.extent v.place
seen_places w places lit e v x y is call h = grind (arith)
