-- The laws of what runs take.
use Rattle.std.specs.Prelude.{Contains, List, length, ℕ, ◌≡◌, ◌≤◌}
use Rattle.dvg_words.specs.Memory.{IsMemory, Memory, Rom}
use Rattle.dvg_words.specs.Values.{DrawFields, Window}
use Rattle.dvg_words.specs.declared.instruction.Instr.TheVariants.{Draw as Draws}
use Rattle.dvg_words.specs.declared.machine.Machine.TheVariants.{Board}
use Rattle.dvg_circuit.specs.Circuit.{Reads, begin, run_after}
use Rattle.dvg_circuit.specs.declared.circuit.Circuit.{Circuit}
use Rattle.dvg_cert.specs.declared.entry.Entry.{Entry}
use Rattle.dvg_cert.specs.declared.limits.TheConstants.{MOST_DEPTH}
use Rattle.dvg_items.specs.Known.{Context, words_before}
use Rattle.dvg_items.specs.declared.item.Item.{Item}
use Rattle.dvg_check.specs.Rules.{Good, GoodFrame}
use Rattle.dvg_check.specs.declared.fault.Mode.{Mode}
use Rattle.dvg_check.specs.declared.fault.Mode.TheVariants.{Exact}
use Rattle.dvg_clocks.specs.Clocks.{TakenOnCircuit, clocks_of_instr, counts_of, taken_after, words_of_instr}
use Rattle.dvg_clocks.specs.Forecasts.{clocks_known, just, taken_before, words_known}
use Rattle.dvg_clocks.specs.Sums.{IsSumOfItems, frame_sum}
use Rattle.dvg_clocks.specs.declared.clocks.States.{States}

-- a good frame over good shapes takes its sum of clocks on the circuit
abbrev pub ClocksOnCircuit : Type 0
ClocksOnCircuit =
    (t : States) (mode : Mode) (m : Memory) (w v : Window) (list : List Entry) (budget words depth : ℕ)
    → IsMemory m → m.rom.machine ≡ Board
    → ((e : Entry) → Contains list e → e.depth ≤ MOST_DEPTH)
    → Good mode w m.rom list
    → GoodFrame v m.rom.machine m.frame list budget words depth
    → TakenOnCircuit (clocks_of_instr t) m (frame_sum (clocks_known t) m list words)

-- the words that are known of items and claimed by entries of exact counts are the sums of this measure, and the words that a run of
-- the circuit fetched are what it took of it
pub record WordsAreTaken : Type 0 where
  pub items : (c : Context) (items : List Item) → taken_before words_known (λ e. just e.words) c items ≡ just (words_before c items)
  pub entries : (w : Window) (rom : Rom) (list : List Entry) → Good Exact w rom list → IsSumOfItems words_known rom list (λ e. just e.words)
  pub runs :
      (reads : ℕ → Reads) (c : Circuit) (n : ℕ)
      → length (run_after reads n (begin c)).fetched ≡ taken_after words_of_instr reads n (begin c)

-- at an unknown scale a draw may take the least and the most of what is forecast
pub record IsTight (d : DrawFields) : Type 0 where
  pub none : (scale : ℕ) × (scale ≤ 15) × (counts_of (Draws d) scale ≡ 0)
  pub all : (scale : ℕ) × (scale ≤ 15) × (counts_of (Draws d) scale ≡ 1024)

abbrev pub TightForecast : Type 0
TightForecast = (d : DrawFields) → d.lscale ≤ 9 → IsTight d
