-- A worked example of how far apart the machines are: the frame whose two draws of half a place the board rounds up.
use Rattle.std.specs.Prelude.{◌≡◌, ℕ, pos, true, [], ◌∷◌}
use Rattle.dvg_words.specs.declared.machine.Machine.{Machine}
use Rattle.dvg_words.specs.declared.machine.Machine.TheVariants.{Profile, Board}
use Rattle.dvg_words.specs.declared.beam.Point.{Point}
use Rattle.dvg_words.specs.Memory.{Memory}
use Rattle.dvg_words.specs.Example.{example_rom}
use Rattle.dvg_words.specs.Generator.{State, Running, Halted, Reached, start}
use Rattle.dvg_check.specs.MachinesExample.{edge_frame}
use Rattle.dvg_check.specs.Drift.{Course, course_of, on, RunsOnlyRound, FewDraws}

-- the frame of the worked frames whose LABS is to place 1022, 100, with the ROM of the worked run
abbrev pub edge_memory : Memory
edge_memory = record { frame = edge_frame; rom = example_rom }

-- how far each of its two draws moves the beam: half a screen place, and on the board a whole one
abbrev pub edge_move : Machine → Point
edge_move Profile = record { x = pos 512; y = pos 0 }
edge_move Board = record { x = pos 1024; y = pos 0 }

-- the course at its HALT
abbrev pub edge_course : Machine → Course
edge_course machine =
    record { set_at = record { x = pos 1046528; y = pos 102400 }; by_labs = true; moves = edge_move machine ∷ edge_move machine ∷ [] }

-- its runs meet the premises of InsetIsSafe with two draws after the LABS, but not with one, and each of them ends with that course
pub record WorkedCourse (machine : Machine) : Type 0 where
  pub rounds : RunsOnlyRound machine edge_memory
  pub two : FewDraws 2 (on machine edge_memory)
  pub more_than_one : FewDraws 1 (on machine edge_memory) → ⊥
  pub course :
      (place : Point) (scale steps : ℕ) (h : State)
      → (run : Reached (on machine edge_memory) steps (Running (start place scale)) (Halted h))
      → course_of (on machine edge_memory) place scale steps (Halted h) run ≡ edge_course machine
