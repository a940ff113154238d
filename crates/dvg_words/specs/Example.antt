-- A worked run of the generator: a frame that sets the beam and calls a ROM's lit stroke.
use Rattle.std.specs.Prelude.{ℕ, pos, List, [], ◌∷◌, replicate}
use Rattle.dvg_words.specs.Values.{asteroids, Profile}
use Rattle.dvg_words.specs.Memory.{Memory, Rom}
use Rattle.dvg_words.specs.Beam.{Point}
use Rattle.dvg_words.specs.Generator.{State, Status, Running, Halted, Step, Reached, start}

-- at 800 a lit draw by 1023 screen places to the right and 767 up, as VCTR at local scale 9, then RTSL; zeros elsewhere
abbrev pub example_rom : Rom
example_rom = record { map = asteroids; machine = Profile; words = 0x92FF ∷ 0x73FF ∷ 0xD000 ∷ replicate 1021 0 }

-- LABS to place 0, 128 and global scale 0, JSRL to 800, HALT
abbrev pub example_frame : List ℕ
example_frame = 0xA080 ∷ 0x0000 ∷ 0xC800 ∷ 0xB0B0 ∷ []

-- all that the generator can fetch
abbrev pub example_memory : Memory
example_memory = record { frame = example_frame; rom = example_rom }

-- where the LABS sets the beam: screen place 0, 128, in units of 1/1024 of a screen place
abbrev pub example_from : Point
example_from = record { x = pos 0; y = pos 131072 }

-- where the VCTR leads: 1023 screen places to the right and 767 up from there
abbrev pub example_to : Point
example_to = record { x = pos 1047552; y = pos 916480 }

-- at the start: the beam anywhere, at any global scale, and no return place stored
abbrev pub example_start : Point → ℕ → State
example_start place scale =
    record { pc = 0; place = place; scale = scale; return_stack = []; max_stack = 0; strokes = []; fetched = [] }

-- after the LABS at 0 and 1: the beam's place and the global scale are set, whatever they were
abbrev pub example_set : State
example_set =
    record {
      pc = 2;
      place = example_from;
      scale = 0;
      return_stack = [];
      max_stack = 0;
      strokes = [];
      fetched = 1 ∷ 0 ∷ [];
    }

-- after the JSRL at 2: the return place 3 is stored
abbrev pub example_called : State
example_called = record example_set { pc = 0x800; return_stack = 3 ∷ []; max_stack = 1; fetched = 2 ∷ 1 ∷ 0 ∷ [] }

-- after the VCTR at 800 and 801: one lit stroke
abbrev pub example_drawn : State
example_drawn =
    record example_called {
      pc = 0x802;
      place = example_to;
      strokes = record { from = example_from; to = example_to } ∷ [];
      fetched = 0x801 ∷ 0x800 ∷ 2 ∷ 1 ∷ 0 ∷ [];
    }

-- after the RTSL at 802: no return place is stored, and the most that were stored stays 1
abbrev pub example_returned : State
example_returned =
    record example_drawn { pc = 3; return_stack = []; fetched = 0x802 ∷ 0x801 ∷ 0x800 ∷ 2 ∷ 1 ∷ 0 ∷ [] }

-- at the HALT at 3, which is fetched too
abbrev pub example_halted : State
example_halted = record example_returned { fetched = 3 ∷ 0x802 ∷ 0x801 ∷ 0x800 ∷ 2 ∷ 1 ∷ 0 ∷ [] }

-- running in these states, one after another, and then halted
abbrev pub run_through : List State → State → List Status
run_through [] last = Halted last ∷ []
run_through (s ∷ more) last = Running s ∷ run_through more last

-- the statuses of the run, in their order
abbrev pub example_run : Point → ℕ → List Status
example_run place scale =
    run_through (example_start place scale ∷ example_set ∷ example_called ∷ example_drawn ∷ example_returned ∷ []) example_halted

-- each status steps to the next of the list
abbrev pub Follow : Memory → List Status → Type 0
Follow m [] = Unit {0}
Follow m (last ∷ []) = Unit {0}
Follow m (one ∷ next ∷ more) = Step m one next × Follow m (next ∷ more)

-- from any beam place and at any global scale the run goes so, and its halt is reached by five steps
pub record WorkedRun : Type 0 where
  pub steps : (place : Point) (scale : ℕ) → Follow example_memory (example_run place scale)
  pub halts :
      (place : Point) (scale : ℕ)
      → Reached example_memory 5 (Running (start place scale)) (Halted example_halted)
