-- The safety theorem: what acceptance means for every run of the generator.
use Rattle.std.specs.Prelude.{◌≡◌, ℕ, ◌≤◌, ◌⊎◌, length}
use Rattle.std.specs.List.{AllByRecursion}
use Rattle.dvg_words.specs.Values.{Window}
use Rattle.dvg_words.specs.Memory.{Memory, InFrame, InRom}
use Rattle.dvg_words.specs.declared.beam.Point.{Point}
use Rattle.dvg_words.specs.Beam.{InWindow}
use Rattle.dvg_words.specs.Generator.{Stroke, State, Status, Running, Halted, Fault, Reached, start}

-- a word of the frame or of the ROM
abbrev pub IsMapped : Memory → ℕ → Type 0
IsMapped m p = InFrame m.frame p ⊎ InRom m.rom.map p

-- both ends of a stroke
abbrev pub Ends : (Point → Type 0) → Stroke → Type 0
Ends P stroke = P stroke.from × P stroke.to

-- a state that a run reaches by this many steps is safe
pub record IsSafeState (m : Memory) (w : Window) (words depth steps : ℕ) (s : State) : Type 0 where
  pub within : steps ≤ words
  -- at most `words` words were fetched, all of them words of the frame or of the ROM
  pub few : length s.fetched ≤ words
  pub mapped : AllByRecursion (IsMapped m) s.fetched
  -- at most `depth` return places were stored at once
  pub stored : s.max_stack ≤ depth
  -- all lit strokes are in the window
  pub lit : AllByRecursion (Ends (InWindow w)) s.strokes

-- a running or halted state is safe, and a fault is not
abbrev pub IsSafeStatus : Memory → Window → ℕ → ℕ → ℕ → Status → Type 0
IsSafeStatus m w words depth steps (Running s) = IsSafeState m w words depth steps s
IsSafeStatus m w words depth steps (Halted s) = IsSafeState m w words depth steps s
IsSafeStatus m w words depth steps (Fault s) = ⊥

-- a run from this place and this scale reaches HALT within `words` steps
abbrev pub HaltsWithin : Memory → ℕ → Point → ℕ → Type 0
HaltsWithin m words place scale =
    (steps : ℕ) × (h : State) × (steps ≤ words) × Reached m steps (Running (start place scale)) (Halted h)

-- each state that a run from this place and this scale reaches is safe, and none is a fault
abbrev pub StaysSafe : Memory → Window → ℕ → ℕ → Point → ℕ → Type 0
StaysSafe m w words depth place scale =
    (steps : ℕ) (s : Status) → Reached m steps (Running (start place scale)) s → IsSafeStatus m w words depth steps s

-- From the frame's first word, at any beam place and any global scale, every run reaches HALT within `words` steps, and
-- every state on the way is safe.
pub record Safe (m : Memory) (w : Window) (words depth : ℕ) : Type 0 where
  pub four : depth ≤ 4
  pub halts : (place : Point) (scale : ℕ) → scale ≤ 15 → HaltsWithin m words place scale
  pub each : (place : Point) (scale : ℕ) → scale ≤ 15 → StaysSafe m w words depth place scale

-- at each halt exactly `words` words were fetched, and the most return places stored at once were `depth`
abbrev pub CountsAtHalt : Memory → ℕ → ℕ → Type 0
CountsAtHalt m words depth =
    (place : Point) (scale steps : ℕ) (h : State) → scale ≤ 15 → Reached m steps (Running (start place scale)) (Halted h)
    → (length h.fetched ≡ words) × (h.max_stack ≡ depth)
