-- A worked run of the circuit, pulse by pulse. It loads both counters, calls with the stack pointer at 15, draws across the wrap of
-- twelve bits, returns and halts, while its first word is overwritten.
use Rattle.std.specs.Prelude.{◌≡◌, ℕ, zero, suc, ◌-◌, ◌≤◌, pos, negsuc, nat_lt, if◌then◌else◌, true, false, List, [], ◌∷◌, slice_index}
use Rattle.dvg_words.specs.Values.{DrawFields}
use Rattle.dvg_circuit.specs.Counters.{Counters, pulse, counts, passed}
use Rattle.dvg_words.specs.declared.instruction.Format.TheVariants.{Short, Long}
use Rattle.dvg_circuit.specs.Circuit.{Circuit, LitDraw, Reads, past, places, run_after, begin}

-- LABS to X FFE, Y 064 and global scale 0; JSRL 800; HALT
abbrev pub example_frame : ℕ → List ℕ
example_frame first = first ∷ 0x0FFE ∷ 0xC800 ∷ 0xB000 ∷ []

-- at 800: VCTR at local scale 1, intensity 7, X 640, Y -256; RTSL
abbrev pub example_rom : List ℕ
example_rom = 0x1500 ∷ 0x7280 ∷ 0xD000 ∷ []

-- the frame's words, then the ROM's
abbrev pub words_read : List ℕ → Reads
words_read frame p = if nat_lt p 2048 then slice_index frame p else slice_index example_rom (p - 2048)

-- from the second instruction on the first word, which is not fetched again, reads as anything
abbrev pub example_reads : ℕ → ℕ → Reads
example_reads other zero = words_read (example_frame 0xA064)
example_reads other (suc n) = words_read (example_frame other)

-- the registers at the start: the stack pointer at 15, the counters, the scale and the four places anything
abbrev pub example_start : Counters → ℕ → List ℕ → Circuit
example_start counters scale returns =
    record { pc = 0; counters = counters; scale = scale; pointer = 15; returns = returns; halted = false }

-- counters that hold these
abbrev pub at : ℕ → ℕ → Counters
at x y = record { x = x; y = y }

-- the draw at 800 and 801
abbrev pub example_draw : DrawFields
example_draw = record { dx = pos 640; dy = negsuc 255; lscale = 1; bright = 7 }

-- as the run lights it, from where the LABS sets the counters
abbrev pub example_lit : LitDraw
example_lit = record { draw = example_draw; from = at 4094 100; counts = 4 }

-- 640 is 1010000000 in binary and 256 is 0100000000: of 4 counts X has a pulse at 0, 2 and 3, and Y at 1
pub record WorkedPulses : Type 0 where
  pub counts : counts 1 ≡ 4
  pub x : pulse 640 0 ∷ pulse 640 1 ∷ pulse 640 2 ∷ pulse 640 3 ∷ [] ≡ 1 ∷ 0 ∷ 1 ∷ 1 ∷ []
  pub y : pulse 256 0 ∷ pulse 256 1 ∷ pulse 256 2 ∷ pulse 256 3 ∷ [] ≡ 0 ∷ 1 ∷ 0 ∷ 0 ∷ []
  pub passed : passed example_draw (at 4094 100) 4 ≡ at 4094 100 ∷ at 4095 100 ∷ at 4095 99 ∷ at 0 99 ∷ at 1 99 ∷ []

-- past the word at FFF stands the one at 000, and a long instruction may wrap in its middle
pub record WorkedAddresses : Type 0 where
  pub short : past Short 4095 ≡ 0
  pub long : past Long 4095 ≡ 1
  pub fetched : places Long 4095 ≡ 4095 ∷ 0 ∷ []

-- the run after each of its five instructions; it stays as it is after the halt
pub record WorkedRun (counters : Counters) (scale a b c d other : ℕ) : Type 0 where
  pub labs :
      run_after (example_reads other) 1 (begin (example_start counters scale (a ∷ b ∷ c ∷ d ∷ [])))
      ≡ record {
        circuit = record { pc = 2; counters = at 4094 100; scale = 0; pointer = 15; returns = a ∷ b ∷ c ∷ d ∷ []; halted = false };
        lit = [];
        fetched = 0 ∷ 1 ∷ [];
      }
  pub jsrl :
      run_after (example_reads other) 2 (begin (example_start counters scale (a ∷ b ∷ c ∷ d ∷ [])))
      ≡ record {
        circuit = record { pc = 2048; counters = at 4094 100; scale = 0; pointer = 0; returns = 3 ∷ b ∷ c ∷ d ∷ []; halted = false };
        lit = [];
        fetched = 0 ∷ 1 ∷ 2 ∷ [];
      }
  pub vctr :
      run_after (example_reads other) 3 (begin (example_start counters scale (a ∷ b ∷ c ∷ d ∷ [])))
      ≡ record {
        circuit = record { pc = 2050; counters = at 1 99; scale = 0; pointer = 0; returns = 3 ∷ b ∷ c ∷ d ∷ []; halted = false };
        lit = example_lit ∷ [];
        fetched = 0 ∷ 1 ∷ 2 ∷ 2048 ∷ 2049 ∷ [];
      }
  pub rtsl :
      run_after (example_reads other) 4 (begin (example_start counters scale (a ∷ b ∷ c ∷ d ∷ [])))
      ≡ record {
        circuit = record { pc = 3; counters = at 1 99; scale = 0; pointer = 15; returns = 3 ∷ b ∷ c ∷ d ∷ []; halted = false };
        lit = example_lit ∷ [];
        fetched = 0 ∷ 1 ∷ 2 ∷ 2048 ∷ 2049 ∷ 2050 ∷ [];
      }
  pub halt :
      (n : ℕ) → 5 ≤ n
      → run_after (example_reads other) n (begin (example_start counters scale (a ∷ b ∷ c ∷ d ∷ [])))
      ≡ record {
        circuit = record { pc = 3; counters = at 1 99; scale = 0; pointer = 15; returns = 3 ∷ b ∷ c ∷ d ∷ []; halted = true };
        lit = example_lit ∷ [];
        fetched = 0 ∷ 1 ∷ 2 ∷ 2048 ∷ 2049 ∷ 2050 ∷ 3 ∷ [];
      }

-- whatever the counters, the scale and the four places hold at the start, and whatever is written over the first word
abbrev pub WorkedRuns : Type 0
WorkedRuns = (counters : Counters) (scale a b c d other : ℕ) → WorkedRun counters scale a b c d other
