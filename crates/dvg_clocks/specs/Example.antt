-- Worked examples of the states of Atari's DVG: instruction by instruction, and the worked example of dvg_check.
use Rattle.std.specs.Prelude.{ℕ, ◌+◌, ◌≡◌}
use Rattle.dvg_words.specs.Decoding.{format_of}
use Rattle.dvg_words.specs.declared.machine.Machine.TheVariants.{Board}
use Rattle.dvg_circuit.specs.Circuit.{decoded}
use Rattle.dvg_check.specs.Example.{example_list, memory_for}
use Rattle.dvg_clocks.specs.Clocks.{TakenOnCircuit, clocks_of_instr}
use Rattle.dvg_clocks.specs.Forecasts.{clocks_known, just}
use Rattle.dvg_clocks.specs.Sums.{frame_sum}
pub use Rattle.dvg_clocks.specs.declared.clocks.TheConstants.{DVG_STATES}

-- the clocks of the instruction with these two words, at a global scale
abbrev pub clocks_of_words : ℕ → ℕ → ℕ → ℕ
clocks_of_words first second scale = clocks_of_instr DVG_STATES (format_of first) (decoded first second) scale

-- one instruction of each kind: its states, and a draw's counts behind them
pub record WorkedInstructions : Type 0 where
  pub vctr : clocks_of_words 0x92FF 0x73FF 0 ≡ 5 + 1024
  pub vctr_at_ten : clocks_of_words 0x92FF 0x73FF 1 ≡ 5
  pub svec : clocks_of_words 0xFA70 0 0 ≡ 3 + 16
  pub svec_at_ten : clocks_of_words 0xFA70 0 7 ≡ 3
  pub labs : clocks_of_words 0xA064 0x0190 0 ≡ 5
  pub halt : clocks_of_words 0xB0B0 0 0 ≡ 3
  pub jsrl : clocks_of_words 0xCABC 0 0 ≡ 4
  pub rtsl : clocks_of_words 0xDFFF 0 0 ≡ 3
  pub jmpl : clocks_of_words 0xE201 0 0 ≡ 3

-- LABS, JSRL, a stroke at effective scale 9, RTSL, HALT: 5 + 4 + (5 + 1024) + 3 + 3 clocks, whatever the registers hold at the start
pub record WorkedClocks : Type 0 where
  pub each : WorkedInstructions
  pub sum : frame_sum (clocks_known DVG_STATES) (memory_for Board) example_list 7 ≡ just 1044
  pub taken : TakenOnCircuit (clocks_of_instr DVG_STATES) (memory_for Board) (just 1044)
