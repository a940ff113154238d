-- A worked run of the board: it sets the beam left of the screen, goes back dark, and draws sizes that it rounds.
use Rattle.std.specs.Prelude.{ℕ, ℤ, ◌+◌, pos, negsuc, List, [], ◌∷◌}
use Rattle.dvg_words.specs.Values.{Board}
use Rattle.dvg_words.specs.Memory.{Memory, Rom}
use Rattle.dvg_words.specs.Beam.{Point}
use Rattle.dvg_words.specs.Generator.{State, Status, Running, Halted, Reached, start}
use Rattle.dvg_words.specs.Example.{example_rom, example_start, example_set, run_through, Follow}

-- the example ROM on the board
abbrev pub board_rom : Rom
board_rom = record example_rom { machine = Board }

-- LABS to place -8, 100 and global scale 0; dark, size 8 to the right at local scale 9; twice lit, size 1 to the right at local
-- scale 8; lit, size 2 to the left at local scale 8; HALT
abbrev pub board_frame : List ℕ
board_frame = 0xA064 ∷ 0x0FF8 ∷ 0x9000 ∷ 0x0008 ∷ 0x8000 ∷ 0x7001 ∷ 0x8000 ∷ 0x7001 ∷ 0x8000 ∷ 0x7402 ∷ 0xB000 ∷ []

-- all that the board can fetch
abbrev pub board_memory : Memory
board_memory = record { frame = board_frame; rom = board_rom }

-- a place 100 screen places up
abbrev pub board_at : ℤ → Point
board_at x = record { x = x; y = pos 102400 }

-- after the LABS at 0 and 1: the beam is eight screen places left of the screen
abbrev pub board_set : State
board_set = record example_set { place = board_at (negsuc 8191) }

-- after the dark VCTR at 2 and 3: the beam is at screen place 0, 100
abbrev pub board_back : State
board_back = record board_set { pc = 4; place = board_at (pos 0); fetched = 3 ∷ 2 ∷ 1 ∷ 0 ∷ [] }

-- after a lit VCTR at this word address and the next: one more stroke
abbrev pub board_drawn : ℕ → ℤ → State → State
board_drawn at x s =
    record s {
      pc = at + 2;
      place = board_at x;
      strokes = record { from = s.place; to = board_at x } ∷ s.strokes;
      fetched = (at + 1) ∷ at ∷ s.fetched;
    }

-- after the first VCTR of size 1: half a place (the profile's move) is rounded to one
abbrev pub board_first : State
board_first = board_drawn 4 (pos 1024) board_back

-- after the second VCTR of size 1: one more place
abbrev pub board_second : State
board_second = board_drawn 6 (pos 2048) board_first

-- after the VCTR of size 2: one place back to the left, so the beam is not where the three draws began
abbrev pub board_third : State
board_third = board_drawn 8 (pos 1024) board_second

-- at the HALT at 10, which is fetched too
abbrev pub board_halted : State
board_halted = record board_third { fetched = 10 ∷ board_third.fetched }

-- the statuses of the run, in their order
abbrev pub board_run : Point → ℕ → List Status
board_run place scale =
    run_through (example_start place scale ∷ board_set ∷ board_back ∷ board_first ∷ board_second ∷ board_third ∷ []) board_halted

-- from any beam place and at any global scale the board's run goes so, and its halt is reached by six steps
pub record WorkedBoardRun : Type 0 where
  pub steps : (place : Point) (scale : ℕ) → Follow board_memory (board_run place scale)
  pub halts :
      (place : Point) (scale : ℕ)
      → Reached board_memory 6 (Running (start place scale)) (Halted board_halted)
