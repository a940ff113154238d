-- Two runs beside each other: what their steps keep of their places and strokes, while all else of their states is the same.
use Rattle.dvg_check.proofs.Common.{List, zero, subst, suc, refl, nat_lt, ◌≡◌, ◌≤◌, ◌++◌, ℕ, Machine, Cell, Odd, Holds, Labs, Profile, Point, DrawFields, shift, displacement, labs_place, cell_at, Stroke, State, Status, Running, Reached, lit_by, after_cell, after_fetch, next_status, Memory, word_at, state_of, Course, course_past, course_at, course_after, course_along, on, OnlyRounds, arith, Draws, effective_scale, Both, nat_le, pos, nat_tests, instruction_of, format_of, negsuc, labs_coordinate, LabsOnScreen}

-- ---- what the two machines read alike: every cell but an odd LABS of the profile

-- the place of a LABS at a word address
abbrev LowCell : Cell → Type 0
LowCell (Holds format i) = LabsOnScreen i
LowCell cell = Unit {0}

same_cell : (machine : Machine) (m : Memory) (p : ℕ) → (cell_at (word_at (on Profile m)) p ≡ Odd → ⊥)
    → cell_at (word_at (on machine m)) p ≡ cell_at (word_at (on Profile m)) p
unfolding cell_at instruction_of
same_cell machine m p there = grind (arith, nat_le, nat_tests, format_of)

low_cell : (m : Memory) (p : ℕ) → LowCell (cell_at (word_at (on Profile m)) p)
unfolding cell_at instruction_of
low_cell m p = grind (arith, nat_le, format_of)

pub coordinate_same : (a b : Machine) (field : ℕ) → field ≤ 1023 → labs_coordinate a field ≡ labs_coordinate b field
coordinate_same a b field low = grind (arith, nat_le, nat_tests, pos, negsuc)

-- ---- one step

-- the same state, but for the beam's place and the strokes
abbrev moved : State → Point → List Stroke → State
moved s q drawn = record s { place = q; strokes = drawn }

-- the strokes after a draw from this place
abbrev pub drawn_on : Machine → DrawFields → ℕ → Point → List Stroke → List Stroke
drawn_on machine d global p drawn = lit_by d.bright (record { from = p; to = shift p (displacement machine d global) }) ++ drawn

-- something about a course, and the places and strokes of two states
abbrev pub Relation : Type 1
Relation = Course → Point → List Stroke → Point → List Stroke → Type 0

-- the relation is kept by draws of effective scales to 9, and by LABS on the screen, as long as this is told of the first machine's
-- courses and strokes
pub record IsKept (a b : Machine) (Told : Course → List Stroke → Type 0) (R : Relation) : Type 0 where
  pub draws :
      (c : Course) (d : DrawFields) (global : ℕ) (p q : Point) (k l : List Stroke) → effective_scale d.lscale global ≤ 9 → Told c k
      → Told (course_past a (Draws d) global c) (drawn_on a d global p k) → R c p k q l
      → R (course_past a (Draws d) global c) (shift p (displacement a d global)) (drawn_on a d global p k)
      (shift q (displacement b d global)) (drawn_on b d global q l)
  pub sets :
      (c : Course) (x y gscale scale : ℕ) (p q : Point) (k l : List Stroke) → (x ≤ 1023) × (y ≤ 1023) → R c p k q l
      → R (course_past a (Labs x y gscale) scale c) (labs_place a x y) k (labs_place b x y) l

-- two states that are the same but for places and strokes, of which the relation holds
pub record Beside (R : Relation) (c : Course) (s t : State) : Type 0 where
  pub same : t ≡ moved s t.place t.strokes
  pub related : R c s.place s.strokes t.place t.strokes

module _ (a b : Machine) (Told : Course → List Stroke → Type 0) (R : Relation) (kept : IsKept a b Told R) where
  beside_cell :
      (s : State) (q : Point) (drawn : List Stroke) (c : Course) (cell : Cell) → R c s.place s.strokes q drawn → OnlyRounds s.scale cell
      → LowCell cell → Told c s.strokes
      → Told (course_at a cell s.scale c) (state_of (after_cell a cell s)).strokes
      → Both (Beside R (course_at a cell s.scale c)) (after_cell a cell s) (after_cell b cell (moved s q drawn))
  beside_cell s q drawn c (Holds format (Draws d)) related rounds low told next =
      record { same = refl; related = kept.draws c d s.scale s.place q s.strokes drawn rounds told next related }
  beside_cell s q drawn c (Holds format (Labs x y gscale)) related rounds low told next =
      record { same = refl; related = kept.sets c x y gscale s.scale s.place q s.strokes drawn low related }
  beside_cell s q drawn c cell related rounds low told next = grind (arith, nat_lt)

  -- ---- runs

  module _ (m : Memory) where
    -- all that a run from a status comes to, the machines take alike but for rounding, and this is told of it
    pub record Ahead (c : Course) (from : Status) : Type 0 where
      pub rounds : (steps : ℕ) (s : State) → Reached (on a m) steps from (Running s)
          → OnlyRounds s.scale (cell_at (word_at (on Profile m)) s.pc)
      pub told : (steps : ℕ) (to : Status) (run : Reached (on a m) steps from to)
          → Told (course_along (on a m) steps from to run c) (state_of to).strokes

    ahead_on : (c : Course) (s : State) (mid : Status) → next_status (on a m) s ≡ mid → Ahead c (Running s)
        → Ahead (course_after (on a m) (Running s) c) mid
    ahead_on c s mid step ahead =
        record { rounds = λ k t run. ahead.rounds (suc k) t (mid, step, run); told = λ k to run. ahead.told (suc k) to (mid, step, run) }

    beside_next : (c : Course) (s t : State) → Ahead c (Running s) → Beside R c s t
        → Both (Beside R (course_after (on a m) (Running s) c)) (next_status (on a m) s) (next_status (on b m) t)
    unfolding next_status
    beside_next c s t ahead beside =
        let read = λ (k : Machine). same_cell k m s.pc (λ e. subst (OnlyRounds s.scale) e (ahead.rounds 0 s refl)) in
        let next = ahead.told 1 (next_status (on a m) s) (next_status (on a m) s, refl, refl) in
        let step = beside_cell (after_fetch (on a m) s) t.place t.strokes c (cell_at (word_at (on Profile m)) s.pc) beside.related
        (ahead.rounds 0 s refl) (low_cell m s.pc) (ahead.told 0 (Running s) refl) (rw (read a) at next) in
        rw (beside.same, read a, read b) step

    pub run_on : (steps : ℕ) (c : Course) (from to other : Status) (run : Reached (on a m) steps from to) → Ahead c from
        → Both (Beside R c) from other → (end : Status) × Reached (on b m) steps other end
        × Both (Beside R (course_along (on a m) steps from to run c)) to end
    run_on zero c from to other run ahead q = (other, refl, subst (λ x. Both (Beside R c) x other) run q)
    run_on (suc steps) c (Running s) to (Running t) run ahead q =
        let rest = run_on steps _ run.0 to (next_status (on b m) t) run.2 (ahead_on c s run.0 run.1 ahead)
        (rw run.1 at (beside_next c s t ahead q)) in
        (rest.0, (next_status (on b m) t, refl, rest.1), rest.2)
    run_on (suc steps) c from to other run ahead q = absurd (grind (arith))

    pub run_back : (steps : ℕ) (c : Course) (from other end : Status) → Reached (on b m) steps other end → Ahead c from
        → Both (Beside R c) from other → (to : Status) × (run : Reached (on a m) steps from to)
        × Both (Beside R (course_along (on a m) steps from to run c)) to end
    run_back zero c from other end run ahead q = (from, refl, subst (λ x. Both (Beside R c) from x) run q)
    run_back (suc steps) c (Running s) (Running t) end run ahead q =
        let rest = run_back steps _ (next_status (on a m) s) run.0 end run.2 (ahead_on c s _ refl ahead)
        (rw run.1 at (beside_next c s t ahead q)) in
        (rest.0, (next_status (on a m) s, refl, rest.1), rest.2)
    run_back (suc steps) c from other end run ahead q = absurd (grind (arith))
