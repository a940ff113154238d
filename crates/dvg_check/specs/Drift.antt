-- How far apart the two machines are: the moves of draws since the beam was last set, and a window inside another.
use Rattle.std.specs.Prelude.{◌≡◌, pos, ◌≤◌, ◌≤ℤ◌, ◌+ℤ◌, ◌+◌, ◌*◌, ◌/◌, ◌∷◌, ℕ, zero, suc, Bool, true, false, List, [], length}
use Rattle.dvg_words.specs.Values.{Window}
use Rattle.dvg_words.specs.declared.machine.Machine.{Machine}
use Rattle.dvg_words.specs.declared.machine.Machine.TheVariants.{Profile}
use Rattle.dvg_words.specs.declared.instruction.Instr.{Instr}
use Rattle.dvg_words.specs.declared.instruction.Instr.TheVariants.{Draw as Draws, Labs}
use Rattle.dvg_words.specs.declared.instruction.Cell.{Cell}
use Rattle.dvg_words.specs.declared.instruction.Cell.TheVariants.{Odd, Holds}
use Rattle.dvg_words.specs.declared.beam.Point.{Point}
use Rattle.dvg_words.specs.Decoding.{cell_at}
use Rattle.dvg_words.specs.Memory.{Memory, word_at}
use Rattle.dvg_words.specs.Beam.{effective_scale, origin, shift, displacement, labs_place}
use Rattle.dvg_words.specs.Generator.{State, Status, Running, Halted, Fault, Reached, start}
use Rattle.dvg_words.specs.Machines.{IsNearMove}
use Rattle.dvg_words.specs.Laws.{state_of}
use Rattle.dvg_check.specs.Safety.{Safe}

-- ---- the moves since the beam was last set

-- how the beam came to its place
pub record Course : Type 0 where
  -- where it was last set, at first by the start
  pub set_at : Point
  -- whether a LABS set it there, and not the start
  pub by_labs : Bool
  -- the moves of the draws since then, the latest first
  pub moves : List Point

-- the sum of moves
abbrev pub sum_of : List Point → Point
sum_of [] = origin
sum_of (move ∷ moves) = shift (sum_of moves) move

-- where the beam is by its course: where it was last set, moved by the sum of the moves since then
abbrev pub place_of : Course → Point
place_of c = shift c.set_at (sum_of c.moves)

-- a draw, dark or lit, adds its move, a LABS sets the beam and leaves no moves, and all else leaves the course
abbrev pub course_past : Machine → Instr → ℕ → Course → Course
course_past machine (Draws d) scale c = record c { moves = displacement machine d scale ∷ c.moves }
course_past machine (Labs x y gscale) scale c = record { set_at = labs_place machine x y; by_labs = true; moves = [] }
course_past machine i scale c = c

-- the course past what stands at a word address
abbrev pub course_at : Machine → Cell → ℕ → Course → Course
course_at machine (Holds format i) scale c = course_past machine i scale c
course_at machine cell scale c = c

-- the course after the step from a status; only a running one has a step
abbrev pub course_after : Memory → Status → Course → Course
course_after m (Running s) c = course_at m.rom.machine (cell_at (word_at m) s.pc) s.scale c
course_after m status c = c

-- the course at the end of a run that begins with this course
abbrev pub course_along : (m : Memory) (steps : ℕ) (from to : Status) → Reached m steps from to → Course → Course
course_along m zero from to run c = c
course_along m (suc steps) from to run c = course_along m steps run.0 to run.2 (course_after m from c)

-- the course at a start: the beam is at the start's place, and no LABS has set it
abbrev pub course_at_start : Point → Course
course_at_start place = record { set_at = place; by_labs = false; moves = [] }

-- the course at the end of a run from a start
abbrev pub course_of :
    (m : Memory) (place : Point) (scale steps : ℕ) (after : Status) → Reached m steps (Running (start place scale)) after → Course
course_of m place scale steps after run = course_along m steps (Running (start place scale)) after run (course_at_start place)

-- on either machine the beam is always where it was last set, moved by the sum of the moves since then
abbrev pub PlaceIsSum : Type 0
PlaceIsSum =
    (m : Memory) (place : Point) (scale steps : ℕ) (after : Status)
    → (run : Reached m steps (Running (start place scale)) after)
    → (state_of after).place ≡ place_of (course_of m place scale steps after run)

-- ---- runs of the two machines

-- the same words on this machine
abbrev pub on : Machine → Memory → Memory
on machine m = record m { rom = record m.rom { machine = machine } }

-- the machines differ by rounding alone at what the profile reads here: it is no odd LABS, and no draw of effective scale over 9
abbrev pub OnlyRounds : ℕ → Cell → Type 0
OnlyRounds scale Odd = ⊥
OnlyRounds scale (Holds format (Draws d)) = effective_scale d.lscale scale ≤ 9
OnlyRounds scale cell = Unit {0}

-- so do they at all that the runs of this machine come to, from any place and at any global scale
abbrev pub RunsOnlyRound : Machine → Memory → Type 0
RunsOnlyRound machine m =
    (place : Point) (scale steps : ℕ) (s : State) → scale ≤ 15
    → Reached (on machine m) steps (Running (start place scale)) (Running s)
    → OnlyRounds s.scale (cell_at (word_at (on Profile m)) s.pc)

-- the second state is the first but for the strokes and the beam's place, which is at most so far away on each axis
pub record IsNear (most : ℕ) (s t : State) : Type 0 where
  pub same : t ≡ record s { place = t.place; strokes = t.strokes }
  pub x : IsNearMove most s.place.x t.place.x
  pub y : IsNearMove most s.place.y t.place.y

-- both run, both halted or both are faults, and this holds of their states
abbrev pub Both : (State → State → Type 0) → Status → Status → Type 0
Both P (Running s) (Running t) = P s t
Both P (Halted s) (Halted t) = P s t
Both P (Fault s) (Fault t) = P s t
Both P s t = ⊥

-- where runs on machine a differ by rounding alone, as many steps on machine b lead to the same state, but for strokes and
-- place: on each axis it is at most half a screen place away, 512 units, for each draw since the beam was last set
abbrev pub HalfPlaceEach : Type 0
HalfPlaceEach =
    (a b : Machine) (m : Memory) (place : Point) (scale steps : ℕ) (after : Status)
    → scale ≤ 15
    → RunsOnlyRound a m
    → (run : Reached (on a m) steps (Running (start place scale)) after)
    → (other : Status) × Reached (on b m) steps (Running (start place scale)) other
    × Both (IsNear (512 * length (course_of (on a m) place scale steps after run).moves)) after other

-- ---- windows

-- in each run at most n draws come after a LABS and before the next one, dark ones and those of called shapes included
abbrev pub FewDraws : ℕ → Memory → Type 0
FewDraws n m =
    (place : Point) (scale steps : ℕ) (after : Status) → scale ≤ 15
    → (run : Reached m steps (Running (start place scale)) after)
    → (course_of m place scale steps after run).by_labs ≡ true
    → length (course_of m place scale steps after run).moves ≤ n

-- the inner window is n / 2 screen places, rounded up, inside the outer one on each side
pub record IsInset (n : ℕ) (outer inner : Window) : Type 0 where
  pub left : (outer.x_min +ℤ pos ((n + 1) / 2)) ≤ℤ inner.x_min
  pub right : (inner.x_max +ℤ pos ((n + 1) / 2)) ≤ℤ outer.x_max
  pub bottom : (outer.y_min +ℤ pos ((n + 1) / 2)) ≤ℤ inner.y_min
  pub top : (inner.y_max +ℤ pos ((n + 1) / 2)) ≤ℤ outer.y_max

-- where runs on machine a differ by rounding alone, and have few draws, what is safe there in the inner window is safe on machine b
-- in the outer one
abbrev pub InsetIsSafe : Type 0
InsetIsSafe =
    (a b : Machine) (m : Memory) (n : ℕ) (outer inner : Window) (words depth : ℕ)
    → IsInset n outer inner
    → RunsOnlyRound a m
    → FewDraws n (on a m)
    → Safe (on a m) inner words depth
    → Safe (on b m) outer words depth
