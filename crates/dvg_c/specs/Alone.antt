-- What a frame comes to by its own certificate, from what C passes. All of it is this project's own.
use Rattle.std.specs.Prelude.{◌≡◌, ◌≢◌, ◌≤◌, ◌⊎◌, ℕ, List, Option, Result, Ok, Err, IfErr}
use Rattle.dvg_words.specs.Values.{MemoryMap, Window, IsMap, IsFor}
use Rattle.dvg_words.specs.Memory.{words_of, rom_on}
use Rattle.dvg_words.specs.declared.machine.Machine.TheVariants.{Board}
use Rattle.dvg_check.specs.declared.verdict.Yes.{Yes}
use Rattle.dvg_make.specs.declared.judging.FrameRefusal.{FrameRefusal}
use Rattle.dvg_make.specs.Judging.{HasCallCause}
use Rattle.dvg_clocks.specs.Clocks.{TakenOnCircuit, clocks_of_instr}
use Rattle.dvg_clocks.specs.declared.clocks.TheConstants.{DVG_STATES}
use Rattle.dvg_clocks.specs.declared.clocks.ClockRange.{ClockRange}
use Rattle.dvg_cmd.specs.declared.frame_judge.OwnCertificates.{OwnCertificates}
use Rattle.dvg_cmd.specs.Frames.{VerdictOnBytes}
use Rattle.dvg_c.specs.declared.answer.Answer.{Answer}
use Rattle.dvg_c.specs.declared.passed.TheConstants.{BOARD}
use Rattle.dvg_c.specs.declared.answer.TheConstants.{BAD_MACHINE, BAD_MAP, BAD_WINDOW}
use Rattle.dvg_c.specs.Told.{machine_of, numbered, told_own, told_timed}

-- the number stands for a machine, a ROM may lie there, and the window is one for that machine
pub record AreTaken (machine : ℕ) (map : MemoryMap) (w : Window) : Type 0 where
  pub machine_is : machine ≤ BOARD
  pub map_is : IsMap map
  pub window_is : IsFor (machine_of machine) w

-- the number of the first of them that is not so
abbrev pub IsBad : ℕ → MemoryMap → Window → ℕ → Type 0
IsBad machine map w n =
    ((n ≡ BAD_MACHINE) × (machine ≤ BOARD → ⊥)) ⊎ (((n ≡ BAD_MAP) × (machine ≤ BOARD) × (IsMap map → ⊥))
    ⊎ ((n ≡ BAD_WINDOW) × (machine ≤ BOARD) × IsMap map × (IsFor (machine_of machine) w → ⊥)))

-- the number of what is out of range; or the verdict on the frame's bytes by its own certificate, and why none can be made
abbrev pub AloneVerdict : ℕ → List ℕ → MemoryMap → List ℕ → ℕ → Window → Result (Result Yes FrameRefusal) ℕ → Type 0
AloneVerdict machine rom map frame budget w (Ok v) =
    AreTaken machine map w × VerdictOnBytes (machine_of machine) rom map frame budget w v
    × IfErr v (HasCallCause (rom_on (machine_of machine) map rom) (words_of frame))
AloneVerdict machine rom map frame budget w (Err n) = IsBad machine map w n

-- each verdict of this judge is the verdict on what C passes
abbrev pub JudgesAlone : ℕ → List ℕ → MemoryMap → ℕ → Window → OwnCertificates → Type 0
JudgesAlone machine rom map budget w own =
    (frame : List ℕ) (v : Result Yes FrameRefusal) → VerdictOnBytes own.machine own.rom.now own.map frame own.budget own.window v
    → IfErr v (HasCallCause (rom_on own.machine own.map own.rom.now) (words_of frame))
    → AloneVerdict machine rom map frame budget w (Ok v)

-- the answer in plain numbers
abbrev pub told_alone : Result (Result Yes FrameRefusal) ℕ → Answer
told_alone (Ok v) = told_own v
told_alone (Err n) = numbered n

-- the same, with clocks beside a yes
abbrev pub told_alone_timed : Result (Result Yes FrameRefusal) ℕ → Option ClockRange → Answer
told_alone_timed (Ok v) clocks = told_timed v clocks
told_alone_timed (Err n) clocks = numbered n

-- the answer tells what the frame comes to, and if it is accepted it may tell clocks
abbrev pub TellsAlone : ℕ → List ℕ → MemoryMap → List ℕ → ℕ → Window → Answer → Type 0
TellsAlone machine rom map frame budget w a =
    (v : Result (Result Yes FrameRefusal) ℕ) × (clocks : Option ClockRange) × AloneVerdict machine rom map frame budget w v
    × (a ≡ told_alone_timed v clocks)

-- if clocks are told, each run of the board's circuit takes at most so many, by the states that documentation has for its instructions
abbrev pub ClocksHold : ℕ → List ℕ → MemoryMap → List ℕ → Answer → Type 0
ClocksHold machine rom map frame a =
    a.clocks ≢ 0
    → (machine_of machine ≡ Board)
    × (least : ℕ)
    × TakenOnCircuit (clocks_of_instr DVG_STATES) (record { frame = words_of frame; rom = rom_on (machine_of machine) map rom })
    (record { least = least; most = a.clocks })
