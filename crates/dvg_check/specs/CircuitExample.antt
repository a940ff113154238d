-- The worked example on the board's circuit: from whatever its registers hold, and while a word of the frame is written over, it reads
-- the words of the frame and of the ROM; and it is safe.
use Rattle.std.specs.Prelude.{ℕ, zero, suc, ◌==◌, if◌then◌else◌, false, [], ◌∷◌, unwrap_or}
use Rattle.dvg_words.specs.declared.machine.Machine.TheVariants.{Board}
use Rattle.dvg_words.specs.Memory.{fetched_at}
use Rattle.dvg_words.specs.Beam.{screen}
use Rattle.dvg_circuit.specs.declared.circuit.Circuit.{Circuit}
use Rattle.dvg_circuit.specs.Circuit.{Reads, begin}
use Rattle.dvg_circuit.specs.Premises.{IsStart, ReadsAs}
use Rattle.dvg_check.specs.Example.{memory_for}
use Rattle.dvg_check.specs.Circuit.{SafeOnCircuit, CountsOnCircuit}

-- the words of the frame and of the ROM; from the second instruction on the frame's first word, which isn't fetched again, reads as
-- this one
abbrev pub example_reads : ℕ → ℕ → Reads
example_reads other zero p = unwrap_or (fetched_at (memory_for Board) p) 0
example_reads other (suc n) p = if p == 0 then other else unwrap_or (fetched_at (memory_for Board) p) 0

-- registers at a start: all ones, but for the program counter and the places stored
abbrev pub example_registers : Circuit
example_registers =
    record { pc = 0; counters = record { x = 4095; y = 4095 }; scale = 15; pointer = 15; returns = 0 ∷ 0 ∷ 0 ∷ 0 ∷ []; halted = false }

-- the premises of the board's theorem are met, and so is what it says
pub record WorkedCircuit : Type 0 where
  pub start : IsStart example_registers
  pub reads : (c : Circuit) (other : ℕ) → IsStart c → ReadsAs (memory_for Board) (example_reads other) (begin c)
  pub safe : SafeOnCircuit (memory_for Board) screen 7 1
  pub counts : CountsOnCircuit (memory_for Board) 7 1
