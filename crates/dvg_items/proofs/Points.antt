-- Points and moves.
use Rattle.dvg_items.proofs.Common.{arith, ◌≡◌, ints, shift, origin, Point}

pub point_is : (p q : Point) → p.x ≡ q.x → p.y ≡ q.y → p ≡ q
point_is p q a b = λ i. record { x = a i; y = b i }

pub shift_origin : (p : Point) → shift p origin ≡ p
shift_origin p = point_is _ _ (omega (arith, ints)) (omega (arith, ints))

pub origin_shift : (p : Point) → shift origin p ≡ p
origin_shift p = point_is _ _ (omega (arith, ints)) (omega (arith, ints))

pub shift_shift : (p d e : Point) → shift (shift p d) e ≡ shift p (shift d e)
shift_shift p d e = point_is _ _ (omega (arith, ints)) (omega (arith, ints))
