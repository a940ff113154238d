-- How many clocks a run of the circuit takes, from its first instruction to the end of its HALT.
--
-- Each state of an instruction takes one clock, and so does each count of a draw (MAME's DVG). On Asteroids' board a clock is
-- 1/1,512,000 s (MAME's DVG). How many states an instruction has is a parameter. What a start takes before the first instruction is
-- not counted, nor what passes after HALT until the processor sees it.
use Rattle.std.specs.Prelude.{if◌then◌else◌, suc, true, zero, ℕ, ◌+◌, ◌≡◌, ◌≤◌}
use Rattle.dvg_words.specs.Beam.{effective_scale}
use Rattle.dvg_words.specs.Decoding.{format_of, word_count}
use Rattle.dvg_words.specs.Memory.{Memory}
use Rattle.dvg_words.specs.declared.instruction.Format.{Format}
use Rattle.dvg_words.specs.declared.instruction.Format.TheVariants.{Long, Short}
use Rattle.dvg_words.specs.declared.instruction.Instr.{Instr}
use Rattle.dvg_words.specs.declared.instruction.Instr.TheVariants.{Draw as Draws, Halt, Jmpl, Jsrl, Labs, Rtsl}
use Rattle.dvg_circuit.specs.Circuit.{Reads, Run, begin, decoded, run_after, second_word}
use Rattle.dvg_circuit.specs.Counters.{counts}
use Rattle.dvg_circuit.specs.Premises.{IsStart, ReadsAs}
use Rattle.dvg_circuit.specs.declared.circuit.Circuit.{Circuit}
pub use Rattle.dvg_clocks.specs.declared.clocks.ClockRange.{ClockRange}
pub use Rattle.dvg_clocks.specs.declared.clocks.States.{States}

-- ---- what an instruction takes

-- how much of something an instruction takes, by its format and the global scale before it
abbrev pub Measure : Type 0
Measure = Format → Instr → ℕ → ℕ

-- how many states an instruction has; the long draw is VCTR, the short one SVEC
abbrev pub states_of : States → Format → Instr → ℕ
states_of t Long (Draws d) = t.vctr
states_of t Short (Draws d) = t.svec
states_of t format (Labs x y gscale) = t.labs
states_of t format Halt = t.halt
states_of t format (Jsrl to) = t.jsrl
states_of t format Rtsl = t.rtsl
states_of t format (Jmpl to) = t.jmpl

-- for how many counts the vector timer runs, at a global scale; only a draw starts it
abbrev pub counts_of : Instr → ℕ → ℕ
counts_of (Draws d) scale = counts (effective_scale d.lscale scale)
counts_of i scale = 0

-- the clocks of an instruction at a global scale: one for each state, and one for each count
abbrev pub clocks_of_instr : States → Measure
clocks_of_instr t format i scale = states_of t format i + counts_of i scale

-- the words of an instruction: a measure, too
abbrev pub words_of_instr : Measure
words_of_instr format i scale = word_count format

-- ---- what a run of the circuit takes

-- what the instruction with this first word takes
abbrev pub taken_with : Measure → Reads → ℕ → Run → ℕ
taken_with measure reads first r =
    measure (format_of first) (decoded first (second_word (format_of first) reads r.circuit.pc)) r.circuit.scale

-- what the next instruction of a run takes; nothing after a halt
abbrev pub taken_next : Measure → Reads → Run → ℕ
taken_next measure reads r = if r.circuit.halted then 0 else taken_with measure reads (reads r.circuit.pc) r

-- what the first n instructions of a run take
abbrev pub taken_after : Measure → (ℕ → Reads) → ℕ → Run → ℕ
taken_after measure reads zero r = 0
taken_after measure reads (suc n) r = taken_after measure reads n r + taken_next measure (reads n) (run_after reads n r)

-- ---- between a least and a most

-- the number is no less than the least and no more than the most
pub record IsInRange (r : ClockRange) (n : ℕ) : Type 0 where
  pub least : r.least ≤ n
  pub most : n ≤ r.most

-- a run of the circuit takes what the range says
pub record RunTakes (measure : Measure) (range : ClockRange) (reads : ℕ → Reads) (r : Run) : Type 0 where
  -- after any number of instructions no more than the most
  pub each : (n : ℕ) → taken_after measure reads n r ≤ range.most
  -- and once it has halted no less than the least
  pub halted : (n : ℕ) → (run_after reads n r).circuit.halted ≡ true → IsInRange range (taken_after measure reads n r)

-- each run of the circuit takes what the range says: for all that the registers may hold at the start, and whatever is written to memory
-- while it runs, if each word that it fetches is read as the frame and the ROM have it. That it halts is no part of this
abbrev pub TakenOnCircuit : Measure → Memory → ClockRange → Type 0
TakenOnCircuit measure m range =
    (c : Circuit) (reads : ℕ → Reads) → IsStart c → ReadsAs m reads (begin c) → RunTakes measure range reads (begin c)
