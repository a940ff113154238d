-- What is asked of a run of the circuit: where it starts, and that it reads the words of the frame and of the ROM.
use Rattle.std.specs.Prelude.{◌≡◌, ℕ, ◌<◌, false, Some, length}
use Rattle.std.specs.List.{AllByRecursion}
use Rattle.dvg_words.specs.Decoding.{format_of}
use Rattle.dvg_words.specs.Memory.{Memory, word_at}
use Rattle.dvg_circuit.specs.Circuit.{Circuit, Reads, Run, places, run_after}

-- a display starts at word 000 (DVG documentation), not halted; each other register holds whatever its bits can
pub record IsStart (c : Circuit) : Type 0 where
  pub pc : c.pc ≡ 0
  pub x : c.counters.x < 4096
  pub y : c.counters.y < 4096
  pub scale : c.scale < 16
  pub pointer : c.pointer < 16
  pub four : length c.returns ≡ 4
  pub running : c.halted ≡ false

-- a word that the memory has at this address is read there; at any other address anything is
abbrev pub IsRead : Memory → Reads → ℕ → Type 0
IsRead m reads p = (word : ℕ) → (word_at m).word p ≡ Some word → reads p ≡ word

-- each word that the next instruction fetches is read as the memory has it
abbrev pub ReadsNow : Memory → Reads → Run → Type 0
ReadsNow m reads r = AllByRecursion (IsRead m reads) (places (format_of (reads r.circuit.pc)) r.circuit.pc)

-- at each instruction of the run
abbrev pub ReadsAs : Memory → (ℕ → Reads) → Run → Type 0
ReadsAs m reads r = (n : ℕ) → (run_after reads n r).circuit.halted ≡ false → ReadsNow m (reads n) (run_after reads n r)
