-- How far apart runs of the two machines are, and what is safe on one of them by the other.
use Rattle.dvg_check.proofs.Common.{arith, List, subst, sym, ap, refl, true, false, length, ℤ, pos, ◌≡◌, ◌+◌, ◌≤◌, ◌∷◌, ◌∙◌, ◌+ℤ◌, ◌*ℤ◌, ℕ, [], AllByRecursion, ints, Machine, Point, Window, shift, displacement, InWindow, Stroke, State, Status, Running, Halted, Reached, start, lit_by, Memory, state_of, Course, course_past, course_at_start, on, Safe, Ends, IsSafeState, rules, common_steps, negsuc, neg_ℤ, ◌*◌, point_is, course_of, RunsOnlyRound, HalfPlaceEach, IsInset, InsetIsSafe, IsMapped, HaltsWithin, StaysSafe}
use Rattle.dvg_words.specs.Machines.{IsNearMove, HalfPlace}
use Rattle.dvg_check.proofs.Beside.{coordinate_same, drawn_on, Relation, IsKept, Beside, run_on, run_back, Ahead}
use Rattle.dvg_check.proofs.Safety.{safe_state}

-- ---- places of the two machines

abbrev AreNear : ℕ → Point → Point → Type 0
AreNear most p q = IsNearMove most p.x q.x × IsNearMove most p.y q.y

near_here : (most : ℕ) (v : ℤ) → IsNearMove most v v
near_here most v = record { low = omega (arith, ints); high = omega (arith, ints) }

near_on : (most more : ℕ) (v u d e : ℤ) → most + 512 ≡ more → IsNearMove most v u → IsNearMove 512 d e → IsNearMove more (v +ℤ d) (u +ℤ e)
near_on most more v u d e is near moved =
    record { low = omega (arith, ints, is, near.low, moved.low); high = omega (arith, ints, is, near.high, moved.high) }

abbrev PlacesNear : Relation
PlacesNear c p k q l = AreNear (512 * length c.moves) p q

-- nothing is told
abbrev Untold : Course → List Stroke → Type 0
Untold c k = Unit {0}

places_kept : (half : HalfPlace) (a b : Machine) → IsKept a b Untold PlacesNear
unfolding displacement
places_kept half a b =
    record {
      draws = λ c d global p q k l low told next near. grind (arith, near_on, near_here);
      sets =
          λ c x y gscale scale p q k l low near. grind (arith, coordinate_same, near_here);
    }

pub half_place_each : HalfPlace → HalfPlaceEach
half_place_each half a b m place scale steps after small rounds run =
    let ahead : Ahead a b Untold PlacesNear (places_kept half a b) m (course_at_start place) (Running (start place scale)) =
    record { rounds = λ k s. rounds place scale k s small; told = λ k to r. tt } in
    let other = run_on a b Untold PlacesNear (places_kept half a b) m steps (course_at_start place) (Running (start place scale)) after
    (Running (start place scale)) run ahead (record { same = refl; related = (near_here 0 place.x, near_here 0 place.y) }) in
    (other.0, other.1, grind (arith, other.2))

-- ---- strokes before the first LABS

abbrev strokes_by : Point → List Stroke → List Stroke
strokes_by e [] = []
strokes_by e (stroke ∷ strokes) = record { from = shift stroke.from e; to = shift stroke.to e } ∷ strokes_by e strokes

-- until a LABS comes, a run from another place has the same places and strokes, shifted
abbrev Shifted : Point → Relation
Shifted e c p k q l = c.by_labs ≡ false → (q ≡ shift p e) × (l ≡ strokes_by e k)

shift_swap : (p e d : Point) → shift (shift p e) d ≡ shift (shift p d) e
shift_swap p e d = point_is _ _ (omega (arith, ints)) (omega (arith, ints))

shifted_kept : (a : Machine) (e : Point) → IsKept a a Untold (Shifted e)
shifted_kept a e = grind (arith, course_past, shift, displacement, drawn_on, shift_swap, lit_by)

none_lit : (l : List Stroke) → ((stroke : Stroke) (drawn : List Stroke) → l ≡ stroke ∷ drawn → ⊥) → l ≡ []
none_lit [] h = refl
none_lit (stroke ∷ drawn) h = absurd (h stroke drawn refl)

-- a run that is safe from any place lights nothing before the first LABS: from a place far enough to the left that would be outside
bare :
    (a : Machine) (m : Memory) (w : Window) (words depth : ℕ) → RunsOnlyRound a m → Safe (on a m) w words depth
    → (place : Point) (scale steps : ℕ) (to : Status) → scale ≤ 15 → (run : Reached (on a m) steps (Running (start place scale)) to)
    → (course_of (on a m) place scale steps to run).by_labs ≡ false → (state_of to).strokes ≡ []
bare a m w words depth rounds safe place scale steps to small run unset = none_lit _ (λ stroke drawn is.
    let e : Point = record { x = (neg_ℤ stroke.from.x +ℤ (pos 1024 *ℤ w.x_min)) +ℤ negsuc 0; y = pos 0 } in
    let ahead : Ahead a a Untold (Shifted e) (shifted_kept a e) m (course_at_start place) (Running (start place scale)) =
    record { rounds = λ k s. rounds place scale k s small; told = λ k to r. tt } in
    let other = run_on a a Untold (Shifted e) (shifted_kept a e) m steps (course_at_start place) (Running (start place scale)) to
    (Running (start (shift place e) scale)) run ahead (record { same = refl; related = λ u. (refl, refl) }) in
    let beside : Beside (Shifted e) (course_of (on a m) place scale steps to run) (state_of to) (state_of other.0) =
    grind (arith, other.2) in
    let state = safe_state (on a m) w words depth steps other.0 (safe.each (shift place e) scale small steps other.0 other.1) in
    let lit = subst (AllByRecursion (Ends (InWindow w))) ((beside.related unset).1 ∙ ap (strokes_by e) is) state.lit in
    omega (arith, ints, lit.0.0.left))

-- ---- windows

near_window : (n k : ℕ) (outer inner : Window) (p q : Point) → IsInset n outer inner → k ≤ n → AreNear (512 * k) p q → InWindow inner p
    → InWindow outer q
near_window n k outer inner p q inset few near there = omega (arith, ints, inset, few, near, there)

-- what is told of a run: from the first LABS on it has few draws, before it it lights nothing, and all is lit in the inner window
abbrev Told : ℕ → Window → Course → List Stroke → Type 0
Told n inner c strokes =
    (c.by_labs ≡ true → length c.moves ≤ n) × (c.by_labs ≡ false → strokes ≡ []) × AllByRecursion (Ends (InWindow inner)) strokes

abbrev LitNear : Window → Relation
LitNear outer c p k q l = PlacesNear c p k q l × AllByRecursion (Ends (InWindow outer)) l

lit_kept : (half : HalfPlace) (a b : Machine) (n : ℕ) (outer inner : Window) → IsInset n outer inner
    → IsKept a b (Told n inner) (LitNear outer)
lit_kept half a b n outer inner inset =
    let near = places_kept half a b in
    record {
      draws = λ c d global p q k l low told next (is, lit).
          let on = near.draws c d global p q k l low tt tt is in (
            on,
            grind (
              arith,
              drawn_on,
              lit_by,
              (near_window n (length c.moves) outer inner p q inset),
              (near_window n (length (displacement a d global ∷ c.moves)) outer inner (shift p (displacement a d global))
                  (shift q (displacement b d global)) inset),
            ),
          );
      sets = λ c x y gscale scale p q k l low (is, lit). (near.sets c x y gscale scale p q k l low is, lit);
    }

safe_as :
    (a b : Machine) (m : Memory) (outer inner : Window) (words depth steps : ℕ) (c : Course) (s t : State) → Beside (LitNear outer) c s t
    → IsSafeState (on a m) inner words depth steps s
    → IsSafeState (on b m) outer words depth steps t
safe_as a b m outer inner words depth steps c s t beside safe =
    let fetched : s.fetched ≡ t.fetched = sym (ap (λ u. u.fetched) beside.same) in
    search (
      subst (λ l. length l ≤ words) fetched safe.few,
      subst (λ l. AllByRecursion (IsMapped (on b m)) l) fetched safe.mapped,
      subst (λ k. k ≤ depth) (sym (ap (λ u. u.max_stack) beside.same)) safe.stored,
      beside.related.1,
    )

pub inset_is_safe : HalfPlace → InsetIsSafe
inset_is_safe half a b m n outer inner words depth inset rounds few safe = record { four = safe.four; halts = halts; each = each }
  where
    ahead : (place : Point) (scale : ℕ) → scale ≤ 15
        → Ahead a b (Told n inner) (LitNear outer) (lit_kept half a b n outer inner inset) m (course_at_start place)
        (Running (start place scale))
    ahead place scale small =
        record {
          rounds = λ k s. rounds place scale k s small;
          told = λ k to run. (
            few place scale k to small run,
            bare a m inner words depth rounds safe place scale k to small run,
            (safe_state (on a m) inner words depth k to (safe.each place scale small k to run)).lit,
          );
        }

    halts : (place : Point) (scale : ℕ) → scale ≤ 15 → HaltsWithin (on b m) words place scale
    halts place scale small =
        let (steps, h, le, run) = safe.halts place scale small in
        let first = Running (start place scale) in
        let other = run_on a b (Told n inner) (LitNear outer) (lit_kept half a b n outer inner inset) m steps (course_at_start place)
        first (Halted h) first run (ahead place scale small)
        (record { same = refl; related = ((near_here 0 place.x, near_here 0 place.y), tt) }) in
        let end : (t : State) × Reached (on b m) steps first (Halted t) = grind (arith, other.1, other.2) in
        (steps, end.0, le, end.1)

    each : (place : Point) (scale : ℕ) → scale ≤ 15 → StaysSafe (on b m) outer words depth place scale
    each place scale small steps end run =
        let first = Running (start place scale) in
        let other = run_back a b (Told n inner) (LitNear outer) (lit_kept half a b n outer inner inset) m steps (course_at_start place)
        first first end run (ahead place scale small)
        (record { same = refl; related = ((near_here 0 place.x, near_here 0 place.y), tt) }) in
        grind (
          arith,
          rules,
          common_steps,
          (safe_as a b m outer inner words depth steps (course_of (on a m) place scale steps other.0 other.1)),
          (safe.each place scale small steps other.0 other.1),
          other.2,
        )
