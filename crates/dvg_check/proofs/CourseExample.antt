-- The runs of the worked frame, state by state.
use Rattle.dvg_check.proofs.Common.{arith, ap, refl, true, false, inl, pos, ◌≡◌, ◌⊎◌, ◌∷◌, ℕ, [], Machine, Profile, Board, Point, Cell, Holds, Short, Long, Labs, Halt, DrawFields, displacement, labs_place, cell_at, instruction_of, State, Status, Running, Halted, Fault, Reached, start, next_status, word_at, Course, course_after, course_at_start, on, Draws, course_of, FewDraws}
use Rattle.dvg_check.specs.CourseExample.{edge_memory, edge_move, edge_course, WorkedCourse}
use Rattle.dvg_check.proofs.Course.{along}

abbrev half : DrawFields
half = record { dx = pos 1; dy = pos 0; lscale = 8; bright = 7 }

-- the course after the LABS, with so many moves
abbrev set_course : Machine → Course
set_course machine = record { set_at = record { x = pos 1046528; y = pos 102400 }; by_labs = true; moves = [] }

abbrev moved_once : Machine → Course
moved_once machine = record (set_course machine) { moves = edge_move machine ∷ [] }

-- what is so of each state that a run reaches
abbrev Stands : Machine → Course → State → Type 0
Stands machine c s =
    ((s.pc ≡ 0) × (c.by_labs ≡ false))
    ⊎ ((s.pc ≡ 2) × (s.scale ≡ 0) × (c ≡ set_course machine))
    ⊎ ((s.pc ≡ 4) × (s.scale ≡ 0) × (c ≡ moved_once machine))
    ⊎ ((s.pc ≡ 6) × (c ≡ edge_course machine))

abbrev Runs : Machine → Course → Status → Type 0
Runs machine c (Running s) = Stands machine c s
Runs machine c (Halted s) = c ≡ edge_course machine
Runs machine c (Fault s) = ⊥

-- what stands at its words
abbrev IsThere : Machine → ℕ → Cell → Type 0
IsThere machine p cell = cell_at (word_at (on machine edge_memory)) p ≡ cell

-- the four items, where the LABS sets the beam, and how far a draw moves it
there : (machine : Machine) → IsThere machine 0 (Holds Long (Labs 1022 100 0)) × IsThere machine 2 (Holds Long (Draws half))
    × IsThere machine 4 (Holds Long (Draws half)) × IsThere machine 6 (Holds Short Halt)
    × (labs_place machine 1022 100 ≡ record { x = pos 1046528; y = pos 102400 }) × (displacement machine half 0 ≡ edge_move machine)
unfolding cell_at instruction_of displacement
there machine = grind (arith)

leads_next : (machine : Machine) (c : Course) (s : State) → Stands machine c s
    → Runs machine (course_after (on machine edge_memory) (Running s) c) (next_status (on machine edge_memory) s)
unfolding next_status
leads_next machine c s h3 = grind (arith, cell_at, word_at, on, labs_place, displacement, (there machine))

-- each state of each run
runs :
    (machine : Machine) (place : Point) (scale steps : ℕ) (after : Status)
    (run : Reached (on machine edge_memory) steps (Running (start place scale)) after)
    → Runs machine (course_of (on machine edge_memory) place scale steps after run) after
runs machine place scale steps after run =
    grind (
      arith,
      (along (on machine edge_memory) (Runs machine) (leads_next machine) steps (course_at_start place)
          (Running (start place scale)) after run (inl (refl, refl))),
      (on machine edge_memory),
      (leads_next machine),
      (course_at_start place),
      (start place scale),
    )

-- ---- what is claimed

-- a run to the HALT, of four steps
halting : (machine : Machine) (place : Point) (scale : ℕ) → (h : State)
    × Reached (on machine edge_memory) 4 (Running (start place scale)) (Halted h)
unfolding next_status cell_at instruction_of displacement
halting Profile place scale = (_, (_, refl, (_, refl, (_, refl, (_, refl, refl)))))
halting Board place scale = (_, (_, refl, (_, refl, (_, refl, (_, refl, refl)))))

pub worked_course : (machine : Machine) → WorkedCourse machine
worked_course machine =
    record {
      rounds = λ place scale steps s small run. let stands =
          runs machine place scale steps (Running s) run in grind (arith, cell_at, word_at, on, (there Profile));
      two = λ place scale steps after small run set. let stands = runs machine place scale steps after run in grind (arith);
      more_than_one = more;
      course = λ place scale steps h run. runs machine place scale steps (Halted h) run;
    }
  where
    more : FewDraws 1 (on machine edge_memory) → ⊥
    more few =
        let (h, run) = halting machine (record { x = pos 0; y = pos 0 }) 0 in
        let is = runs machine (record { x = pos 0; y = pos 0 }) 0 4 (Halted h) run in
        grind (arith, is, (few (record { x = pos 0; y = pos 0 }) 0 4 (Halted h) (omega arith) run (ap (λ c. c.by_labs) is)))
