-- The circuit as a machine of its own: what its registers hold, and what each instruction does to them. It is total and has no
-- fault: whatever its memory answers, it goes on.
--
-- What is initial: a start sets the program counter to 0 and ends the halt; all other registers are as the run before, or power-up,
-- left them. Each draw begins with the rate multipliers at count 0 (MAME's DVG); `AnyStart` says what other counts would change.
-- What wraps: word addresses and both counters at twelve bits, the stack pointer at four, the sum of both scales at four. Calls store
-- at one of four places, which the pointer's two low bits tell.
-- What memory holds: whatever is read, which may change from one instruction to the next; where there is no chip, anything.
-- What is not modelled: time, a second start before HALT, and all that is analog: the DAC, the monitor, dwell. Blanking is `IsShown`,
-- apart from what is lit.
use Rattle.std.specs.Prelude.{ℕ, zero, suc, ◌+◌, ◌%◌, true, List, [], ◌∷◌, ◌++◌, unwrap_or, slice_index, slice_set, if◌then◌else◌}
use Rattle.dvg_words.specs.Values.{DrawFields}
use Rattle.dvg_words.specs.declared.machine.Machine.TheVariants.{Board}
use Rattle.dvg_words.specs.declared.instruction.Instr.{Instr}
use Rattle.dvg_words.specs.declared.instruction.Format.{Format}
use Rattle.dvg_words.specs.declared.instruction.Format.TheVariants.{Short, Long}
use Rattle.dvg_words.specs.Decoding.{word_count, format_of, instruction_of}
use Rattle.dvg_words.specs.declared.instruction.Instr.TheVariants.{Draw as Draws, Labs, Halt, Jsrl, Rtsl, Jmpl}
use Rattle.dvg_words.specs.Beam.{effective_scale}
use Rattle.dvg_circuit.specs.Counters.{counts, counters_after}
pub use Rattle.dvg_circuit.specs.declared.circuit.Circuit.{Circuit}
pub use Rattle.dvg_circuit.specs.declared.lit.LitDraw.{LitDraw}

-- what is read at each word address
abbrev pub Reads : Type 0
Reads = ℕ → ℕ

-- a run so far: the registers, the draws that lit the beam, and the word addresses fetched, in their order
pub record Run : Type 0 where
  pub circuit : Circuit
  pub lit : List LitDraw
  pub fetched : List ℕ

-- ---- fetching

-- the word address past an instruction (Asteroids schematics)
abbrev pub past : Format → ℕ → ℕ
past format p = (p + word_count format) % 4096

-- the word addresses of an instruction
abbrev pub places : Format → ℕ → List ℕ
places Short p = p ∷ []
places Long p = p ∷ past Short p ∷ []

-- the second word of an instruction; 0 if it has none
abbrev pub second_word : Format → Reads → ℕ → ℕ
second_word Short reads p = 0
second_word Long reads p = reads (past Short p)

-- the board decodes all pairs of words: there is always an instruction
abbrev pub decoded : ℕ → ℕ → Instr
decoded first second = unwrap_or (instruction_of Board first second) Halt

-- ---- what an instruction does

-- for how many counts a draw steps the counters
abbrev pub draw_counts : DrawFields → Circuit → ℕ
draw_counts d c = counts (effective_scale d.lscale c.scale)

-- what an instruction does: a draw steps the counters, a LABS loads them and the scale, a call steps the pointer up and stores the
-- next address there, a return goes to the place there and steps it down, HALT stops (MAME's DVG)
abbrev pub after : Instr → Format → Circuit → Circuit
after (Draws d) format c = record c { pc = past format c.pc; counters = counters_after d c.counters (draw_counts d c) }
after (Labs x y gscale) format c = record c { pc = past format c.pc; counters = record { x = x; y = y }; scale = gscale }
after Halt format c = record c { halted = true }
after (Jsrl to) format c =
    record c { pc = to; pointer = (c.pointer + 1) % 16; returns = slice_set c.returns ((c.pointer + 1) % 4) (past format c.pc) }
after Rtsl format c = record c { pc = slice_index c.returns (c.pointer % 4); pointer = (c.pointer + 15) % 16 }
after (Jmpl to) format c = record c { pc = to }

-- intensity 0 is dark (DVG documentation), every other counts as lit (profile)
abbrev pub lit_if : ℕ → LitDraw → List LitDraw
lit_if zero l = []
lit_if (suc n) l = l ∷ []

-- the draw that an instruction lights: at each of its counts the beam is lit, at its first place and its last, too
abbrev pub lit_by : Instr → Circuit → List LitDraw
lit_by (Draws d) c = lit_if d.bright (record { draw = d; from = c.counters; counts = draw_counts d c })
lit_by i c = []

-- ---- runs

-- an instruction that was fetched here is performed
abbrev pub performed : Instr → Format → Run → Run
performed i format r =
    record {
      circuit = after i format r.circuit;
      lit = r.lit ++ lit_by i r.circuit;
      fetched = r.fetched ++ places format r.circuit.pc;
    }

-- the instruction with this first word is fetched and performed
abbrev pub act : Reads → ℕ → Run → Run
act reads first r = performed (decoded first (second_word (format_of first) reads r.circuit.pc)) (format_of first) r

-- one instruction; none after a halt
abbrev pub step : Reads → Run → Run
step reads r = if r.circuit.halted then r else act reads (reads r.circuit.pc) r

-- after n instructions, each of which may read another memory
abbrev pub run_after : (ℕ → Reads) → ℕ → Run → Run
run_after reads zero r = r
run_after reads (suc n) r = step (reads n) (run_after reads n r)

-- a circuit begins to run: nothing lit, nothing fetched
abbrev pub begin : Circuit → Run
begin c = record { circuit = c; lit = []; fetched = [] }
