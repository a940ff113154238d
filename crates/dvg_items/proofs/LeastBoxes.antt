-- The least box of two points and of two boxes, and what one box more has.
use Rattle.dvg_items.proofs.Common.{ℤ, ◌≡◌, ◌≤ℤ◌, subst, sym, arith, ints, clamps, Span, Point}
use Rattle.std.specs.Int.{int_min, int_max}
use Rattle.dvg_cert.specs.declared.entry.LitBox.TheVariants.{Empty}
use Rattle.dvg_cert.specs.declared.entry.LitBox.{LitBox}
use Rattle.dvg_items.specs.Lit.{InBox, IsInside}

-- from the lower of two ends to the upper of two others
pub record IsReach (low high a b c d : ℤ) : Type 0 where
  pub lower : low ≡ int_min a c
  pub upper : high ≡ int_max b d

reach_first : (low high a b c d : ℤ) → IsReach low high a b c d → (low ≤ℤ a) × (b ≤ℤ high)
reach_first low high a b c d h = (omega (arith, ints, clamps, h.lower), omega (arith, ints, clamps, h.upper))

reach_second : (low high a b c d : ℤ) → IsReach low high a b c d → (low ≤ℤ c) × (d ≤ℤ high)
reach_second low high a b c d h = (omega (arith, ints, clamps, h.lower), omega (arith, ints, clamps, h.upper))

reach_least : (low high a b c d s t : ℤ) → IsReach low high a b c d → s ≤ℤ a → b ≤ℤ t → s ≤ℤ c → d ≤ℤ t → (s ≤ℤ low) × (high ≤ℤ t)
reach_least low high a b c d s t h p q r u = (omega (arith, ints, clamps, h.lower, p, r), omega (arith, ints, clamps, h.upper, q, u))

-- the least box of two points
pub record IsSpanning (p q : Point) (box : LitBox) : Type 0 where
  pub first : InBox box p
  pub second : InBox box q
  pub least : (other : LitBox) → InBox other p → InBox other q → IsInside box other

pub spanning_is : (p q : Point) (box : LitBox) (x0 x1 y0 y1 : ℤ) → box ≡ Span x0 x1 y0 y1 → IsReach x0 x1 p.x p.x q.x q.x
    → IsReach y0 y1 p.y p.y q.y q.y → IsSpanning p q box
spanning_is p q box x0 x1 y0 y1 e h k =
    let a = reach_first x0 x1 p.x p.x q.x q.x h in
    let b = reach_first y0 y1 p.y p.y q.y q.y k in
    let c = reach_second x0 x1 p.x p.x q.x q.x h in
    let d = reach_second y0 y1 p.y p.y q.y q.y k in
    let s : IsSpanning p q (Span x0 x1 y0 y1) =
    record {
      first = record { left = a.0; right = a.1; bottom = b.0; top = b.1 };
      second =
          record { left = c.0; right = c.1; bottom = d.0; top = d.1 };
      least = inside;
    } in
    subst (IsSpanning p q) (sym e) s
  where
    inside : (other : LitBox) → InBox other p → InBox other q → IsInside (Span x0 x1 y0 y1) other
    inside Empty i j = absurd i
    inside (Span l r s t) i j =
        let x = reach_least x0 x1 p.x p.x q.x q.x l r h i.left i.right j.left j.right in
        let y = reach_least y0 y1 p.y p.y q.y q.y s t k i.bottom i.top j.bottom j.top in
        (x.0, x.1, y.0, y.1)

-- the least box that has two boxes as parts
pub record IsJoined (a b box : LitBox) : Type 0 where
  pub first : IsInside a box
  pub second : IsInside b box
  pub least : (other : LitBox) → IsInside a other → IsInside b other → IsInside box other

joined_spans : (a0 a1 b0 b1 c0 c1 d0 d1 x0 x1 y0 y1 : ℤ) → IsReach x0 x1 a0 a1 c0 c1 → IsReach y0 y1 b0 b1 d0 d1
    → IsJoined (Span a0 a1 b0 b1) (Span c0 c1 d0 d1) (Span x0 x1 y0 y1)
joined_spans a0 a1 b0 b1 c0 c1 d0 d1 x0 x1 y0 y1 h k =
    let p = reach_first x0 x1 a0 a1 c0 c1 h in
    let q = reach_first y0 y1 b0 b1 d0 d1 k in
    let r = reach_second x0 x1 a0 a1 c0 c1 h in
    let s = reach_second y0 y1 b0 b1 d0 d1 k in
    record { first = (p.0, p.1, q.0, q.1); second = (r.0, r.1, s.0, s.1); least = inside }
  where
    inside : (other : LitBox) → IsInside (Span a0 a1 b0 b1) other → IsInside (Span c0 c1 d0 d1) other → IsInside (Span x0 x1 y0 y1) other
    inside Empty i j = absurd i
    inside (Span l r s t) i j =
        let x = reach_least x0 x1 a0 a1 c0 c1 l r h i.0 i.1 j.0 j.1 in
        let y = reach_least y0 y1 b0 b1 d0 d1 s t k i.2 i.3 j.2 j.3 in
        (x.0, x.1, y.0, y.1)

pub joined_is : (a b box : LitBox) (a0 a1 b0 b1 c0 c1 d0 d1 x0 x1 y0 y1 : ℤ) → a ≡ Span a0 a1 b0 b1 → b ≡ Span c0 c1 d0 d1
    → box ≡ Span x0 x1 y0 y1 → IsReach x0 x1 a0 a1 c0 c1 → IsReach y0 y1 b0 b1 d0 d1 → IsJoined a b box
joined_is a b box a0 a1 b0 b1 c0 c1 d0 d1 x0 x1 y0 y1 e f g h k =
    let s : IsJoined (Span a0 a1 b0 b1) (Span c0 c1 d0 d1) (Span x0 x1 y0 y1) = joined_spans a0 a1 b0 b1 c0 c1 d0 d1 x0 x1 y0 y1 h k in
    subst (λ z. IsJoined z b box) (sym e)
    (subst (λ z. IsJoined (Span a0 a1 b0 b1) z box) (sym f) (subst (IsJoined (Span a0 a1 b0 b1) (Span c0 c1 d0 d1)) (sym g) s))

pub in_wider : (a b : LitBox) (p : Point) → IsInside a b → InBox a p → InBox b p
in_wider a b p i h = grind (arith, ints)
