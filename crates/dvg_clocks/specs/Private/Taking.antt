-- What runs of the generator take, and what shapes do from a call to its return, for every measure that is forecast right.
use Rattle.std.specs.Prelude.{Contains, List, length, suc, ℕ, ◌+◌, ◌∷◌, ◌≡◌, ◌≤◌}
use Rattle.dvg_words.specs.Decoding.{cell_at}
use Rattle.dvg_words.specs.Generator.{Reached, Running, State, Status, next_status}
use Rattle.dvg_words.specs.Memory.{IsMemory, Memory, word_at}
use Rattle.dvg_words.specs.Values.{Window}
use Rattle.dvg_words.specs.declared.instruction.Cell.{Cell}
use Rattle.dvg_words.specs.declared.instruction.Cell.TheVariants.{Holds}
use Rattle.dvg_words.specs.declared.instruction.Format.{Format}
use Rattle.dvg_words.specs.declared.instruction.Instr.{Instr}
use Rattle.dvg_words.specs.declared.instruction.Instr.TheVariants.{Halt}
use Rattle.dvg_words.specs.declared.machine.Machine.{Machine}
use Rattle.dvg_words.specs.declared.machine.Machine.TheVariants.{Board}
use Rattle.dvg_cert.specs.declared.entry.Entry.{Entry}
use Rattle.dvg_cert.specs.declared.entry.Key.{Key}
use Rattle.dvg_cert.specs.declared.limits.TheConstants.{MOST_DEPTH}
use Rattle.dvg_items.specs.Known.{frame_context}
use Rattle.dvg_check.specs.Behaving.{PlaceFits, ScaleFits}
use Rattle.dvg_check.specs.Rules.{Good, GoodFrame}
use Rattle.dvg_check.specs.declared.fault.Mode.{Mode}
use Rattle.dvg_clocks.specs.Clocks.{IsInRange, Measure, TakenOnCircuit, clocks_of_instr, words_of_instr}
use Rattle.dvg_clocks.specs.Forecasts.{Forecast, clocks_known, taken_before, words_known}
use Rattle.dvg_clocks.specs.Sums.{IsSumOfItems}
use Rattle.dvg_clocks.specs.declared.clocks.ClockRange.{ClockRange}
use Rattle.dvg_clocks.specs.declared.clocks.States.{States}

-- ---- the generator

-- what the instruction of a cell takes at a global scale
abbrev pub taken_at : Measure → Cell → ℕ → ℕ
taken_at measure (Holds format i) scale = measure format i scale
taken_at measure cell scale = 0

-- what n steps from a status take; none leads on from a halt or a fault
abbrev pub taken_by : Measure → Memory → ℕ → Status → ℕ
taken_by measure m (suc n) (Running s) = taken_at measure (cell_at (word_at m) s.pc) s.scale + taken_by measure m n (next_status m s)
taken_by measure m n status = 0

-- ---- shapes

-- the forecast is right: at each scale that fits the known one, an instruction takes what it says
abbrev pub IsRight : Measure → Forecast → Type 0
IsRight measure forecast =
    (format : Format) (i : Instr) (key : Key) (scale : ℕ) → ScaleFits key scale → IsInRange (forecast format i key) (measure format i scale)

-- a run leads from one running state to another, and takes what the range says
pub record Took (measure : Measure) (m : Memory) (range : ClockRange) (from to : State) : Type 0 where
  pub steps : ℕ
  pub reached : Reached m steps (Running from) (Running to)
  pub took : IsInRange range (taken_by measure m steps (Running from))

-- a run leads from a state at a shape's first word to the state just past its return, and takes what is said of its entry
pub record TookBack (measure : Measure) (by_entry : Entry → ClockRange) (m : Memory) (e : Entry) (back : ℕ) (rest : List ℕ)
    (from to : State) : Type 0 where
  pub took : Took measure m (by_entry e) from to
  pub pc : to.pc ≡ back
  pub return_stack : to.return_stack ≡ rest
  pub place : PlaceFits e.stop from.place to.place
  pub scale : ScaleFits e.scale to.scale

-- each call that an entry allows returns, and takes what is said of the entry
abbrev pub Takes : Measure → (Entry → ClockRange) → Memory → Entry → Type 0
Takes measure by_entry m e =
    (s : State) (back : ℕ) (rest : List ℕ)
    → length s.return_stack ≤ s.max_stack
    → s.pc ≡ e.addr
    → ScaleFits e.key s.scale
    → s.return_stack ≡ back ∷ rest
    → length s.return_stack + e.depth ≤ 4
    → (t : State) × TookBack measure by_entry m e back rest s t

-- all good shapes take what is said of their entries
abbrev pub AllTake : Type 0
AllTake =
    (measure : Measure) (forecast : Forecast) (by_entry : Entry → ClockRange) (mode : Mode) (m : Memory) (w : Window) (list : List Entry)
    → IsRight measure forecast → IsMemory m → Good mode w m.rom list → IsSumOfItems forecast m.rom list by_entry
    → (e : Entry) → Contains list e → Takes measure by_entry m e

-- ---- frames

-- what a good frame takes, its HALT included
abbrev pub frame_taken :
    Forecast → (Entry → ClockRange) → {w : Window} {machine : Machine} {frame : List ℕ} {list : List Entry} {budget words depth : ℕ}
    → GoodFrame w machine frame list budget words depth → ClockRange
frame_taken forecast by_entry {machine = machine} {list = list} good =
    taken_before forecast by_entry (frame_context machine list) (record { at = good.at; format = good.format; instr = Halt } ∷ good.items)

-- a good frame over good shapes takes so much on the circuit, too
abbrev pub CircuitTakes : Type 0
CircuitTakes =
    (measure : Measure) (forecast : Forecast) (by_entry : Entry → ClockRange) (mode : Mode) (m : Memory) (w v : Window) (list : List Entry)
    (budget words depth : ℕ)
    → IsRight measure forecast → IsMemory m → m.rom.machine ≡ Board
    → ((e : Entry) → Contains list e → e.depth ≤ MOST_DEPTH)
    → Good mode w m.rom list → IsSumOfItems forecast m.rom list by_entry
    → (good : GoodFrame v m.rom.machine m.frame list budget words depth)
    → TakenOnCircuit measure m (frame_taken forecast by_entry good)

-- the forecasts of clocks and of words are right
pub record ForecastsAreRight : Type 0 where
  pub clocks : (t : States) → IsRight (clocks_of_instr t) (clocks_known t)
  pub words : IsRight words_of_instr words_known
