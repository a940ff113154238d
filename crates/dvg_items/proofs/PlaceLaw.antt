-- One move after another.
use Rattle.dvg_items.proofs.Common.{◌≡◌, ap, refl, sym, shift, Point, End, Rel, Abs, Lost, place_moved_by}
use Rattle.dvg_items.proofs.Points.{shift_shift}

pub moves_on : (k : End) (d e : Point) → place_moved_by k (shift d e) ≡ place_moved_by (place_moved_by k d) e
moves_on (Rel x y) d e = ap (λ (p : Point). Rel p.x p.y) (sym (shift_shift (record { x = x; y = y }) d e))
moves_on (Abs x y) d e = ap (λ (p : Point). Abs p.x p.y) (sym (shift_shift (record { x = x; y = y }) d e))
moves_on Lost d e = refl
