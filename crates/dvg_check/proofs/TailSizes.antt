-- A tail's numbers stay small.
use Rattle.dvg_check.proofs.Common.{arith, ints, ◌≤◌, ◌+◌, ℕ, ℤ, Point, End, LitBox, Empty, Span, InBox, IsInside, IsNear, IsNearPlace, IsNearBox, ITEM_REACH, place_more, box_more, wall, in_wall, inside_wall, reached_by_point, nothing_reached, moved, IsSmall, Tail, place_over, stop_effect, place_after}

-- ---- boxes

-- a box inside the greatest one, that has this part
near_by_part : (n : ℕ) (x_min x_max y_min y_max : ℤ) (box : LitBox) → IsNearBox n (Span x_min x_max y_min y_max)
    → IsInside (Span x_min x_max y_min y_max) box → IsInside box (wall ITEM_REACH n) → IsNearBox n box
near_by_part n x_min x_max y_min y_max box h i w = grind (arith, ints)

pub IsNearBox-spanning : (n : ℕ) (p q : Point) (box : LitBox) → IsNear n p → IsNear n q → InBox box p
    → ((other : LitBox) → InBox other p → InBox other q → IsInside box other) → IsNearBox n box
IsNearBox-spanning n p q box h k i least =
    reached_by_point ITEM_REACH n p box h i (least (wall ITEM_REACH n) (in_wall ITEM_REACH n p h) (in_wall ITEM_REACH n q k))

pub IsNearBox-joined : (n : ℕ) (first second box : LitBox) → IsNearBox n first → IsNearBox n second → IsInside first box
    → IsInside second box → ((other : LitBox) → IsInside first other → IsInside second other → IsInside box other) → IsNearBox n box
IsNearBox-joined n Empty Empty box h k i j least = nothing_reached ITEM_REACH n box (least Empty tt tt)
IsNearBox-joined n Empty (Span a b c d) box h k i j least =
    near_by_part n a b c d box k j (least (wall ITEM_REACH n) tt (inside_wall ITEM_REACH n (Span a b c d) k))
IsNearBox-joined n (Span a b c d) second box h k i j least =
    near_by_part n a b c d box h i
    (least (wall ITEM_REACH n) (inside_wall ITEM_REACH n (Span a b c d) h) (inside_wall ITEM_REACH n second k))

pub IsNearBox-moved : (n : ℕ) (box : LitBox) (d : Point) → IsNearBox n box → IsNear 1 d → IsNearBox (n + 1) (moved box d)
IsNearBox-moved n Empty d h k = tt
IsNearBox-moved n (Span x_min x_max y_min y_max) d h k = omega (arith, ints, h, k)

-- ---- places

pub IsNearPlace-over : (n : ℕ) (place stop : End) → IsNearPlace 1 place → IsNearPlace n stop → IsNearPlace (n + 1) (place_over place stop)
IsNearPlace-over n place stop h k = place_after ITEM_REACH 1 n (n + 1) place (stop_effect stop) (omega arith) h (grind (arith))

-- ---- tails

pub IsSmall-more : (m n : ℕ) (t : Tail) → m ≤ n → IsSmall m t → IsSmall n t
IsSmall-more m n t le h =
    record {
      stop = place_more ITEM_REACH m n t.stop le h.stop;
      scale = h.scale;
      words = omega (arith, h.words, le);
      depth = h.depth;
      lit = box_more ITEM_REACH m n t.lit le h.lit;
    }
