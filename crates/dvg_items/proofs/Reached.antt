-- What so many steps of one length reach, more steps reach; and of what is reached, places, boxes and corners are made.
use Rattle.dvg_items.proofs.Common.{arith, rules, ints, ap, ◌≡◌, ◌∙◌, ◌+◌, ◌≤◌, ℕ, shift, AllByRecursion, Point, End, Rel, Abs, Lost, Effect, place_past, Span}
use Rattle.std.proofs.Common.{◌*◌, neg_ℤ, pos}
use Rattle.std.proofs.Math.Nat.{mul-le-mul_left}
use Rattle.dvg_cert.specs.declared.entry.LitBox.{LitBox}
use Rattle.dvg_cert.specs.declared.entry.LitBox.TheVariants.{Empty}
use Rattle.dvg_items.specs.Bounds.{IsReached, IsReachedPlace, IsReachedEffect, IsReachedExtent, IsReachedBox}
use Rattle.dvg_items.specs.Known.{Sets, Loses, Moves}
use Rattle.dvg_items.specs.Lit.{LitExtent, Nothing, Between, Anywhere, relative_corners, InBox, IsInside}

module _ (step : ℕ) where
  -- ---- by more steps

  pub reached_more : (m n : ℕ) (p : Point) → m ≤ n → IsReached step m p → IsReached step n p
  reached_more m n p le h = let more = mul-le-mul_left step le in grind (arith, ints)

  pub place_more : (m n : ℕ) (place : End) → m ≤ n → IsReachedPlace step m place → IsReachedPlace step n place
  place_more m n (Rel x y) le h = reached_more m n (record { x = x; y = y }) le h
  place_more m n (Abs x y) le h = reached_more m n (record { x = x; y = y }) le h
  place_more m n Lost le h = tt

  pub effect_more : (m n : ℕ) (e : Effect) → m ≤ n → IsReachedEffect step m e → IsReachedEffect step n e
  effect_more m n e le h = grind (arith, (λ (p : Point). reached_more m n p le))

  pub extent_more : (m n : ℕ) (lit : LitExtent) → m ≤ n → IsReachedExtent step m lit → IsReachedExtent step n lit
  extent_more m n lit le h = grind (arith, (λ (p : Point). reached_more m n p le))

  pub box_more : (m n : ℕ) (box : LitBox) → m ≤ n → IsReachedBox step m box → IsReachedBox step n box
  box_more m n Empty le h = tt
  box_more m n (Span a b c d) le h = (reached_more m n _ le h.0, reached_more m n _ le h.1)

  -- ---- one reach after another

  pub reached_shift : (m n all : ℕ) (p d : Point) → all ≡ m + n → IsReached step m p → IsReached step n d → IsReached step all (shift p d)
  reached_shift m n all p d is h k =
      let sum : step * all ≡ step * m + step * n = ap (λ x. step * x) is ∙ omega arith in
      record {
        left = omega (arith, ints, h.left, k.left, sum);
        right = omega (arith, ints, h.right, k.right, sum);
        down =
            omega (arith, ints, h.down, k.down, sum);
        up = omega (arith, ints, h.up, k.up, sum);
      }

  pub place_after : (m n all : ℕ) (place : End) (e : Effect) → all ≡ m + n → IsReachedPlace step m place → IsReachedEffect step n e
      → IsReachedPlace step all (place_past e place)
  place_after m n all place (Sets p) is h k = reached_more n all p (omega (arith, is)) k
  place_after m n all place Loses is h k = tt
  place_after m n all (Rel x y) (Moves d) is h k = reached_shift m n all (record { x = x; y = y }) d is h k
  place_after m n all (Abs x y) (Moves d) is h k = reached_shift m n all (record { x = x; y = y }) d is h k
  place_after m n all Lost (Moves d) is h k = tt

  pub corners_reached : (m n all : ℕ) (lit : LitExtent) (place : End) → all ≡ m + n → IsReachedPlace step m place
      → IsReachedExtent step n lit → AllByRecursion (IsReached step all) (relative_corners lit place)
  corners_reached m n all Nothing (Rel x y) is h k = tt
  corners_reached m n all (Between a b) (Rel x y) is h k =
      (reached_shift m n all (record { x = x; y = y }) a is h k.0, (reached_shift m n all (record { x = x; y = y }) b is h k.1, tt))
  corners_reached m n all Anywhere (Rel x y) is h k = tt
  corners_reached m n all lit (Abs x y) is h k = tt
  corners_reached m n all lit Lost is h k = tt

  -- ---- boxes

  -- the greatest box that n steps reach
  abbrev pub wall : ℕ → LitBox
  wall n = Span (neg_ℤ (pos (step * n))) (pos (step * n)) (neg_ℤ (pos (step * n))) (pos (step * n))

  pub in_wall : (n : ℕ) (p : Point) → IsReached step n p → InBox (wall n) p
  in_wall n p h = record { left = h.left; right = h.right; bottom = h.down; top = h.up }

  pub inside_wall : (n : ℕ) (box : LitBox) → IsReachedBox step n box → IsInside box (wall n)
  inside_wall n box h = grind (arith)

  -- a box inside the greatest one, that has this point
  pub reached_by_point : (n : ℕ) (p : Point) (box : LitBox) → IsReached step n p → InBox box p → IsInside box (wall n)
      → IsReachedBox step n box
  reached_by_point n p box h i w = search (rules)

  pub nothing_reached : (n : ℕ) (box : LitBox) → IsInside box Empty → IsReachedBox step n box
  nothing_reached n box h = grind (arith)
