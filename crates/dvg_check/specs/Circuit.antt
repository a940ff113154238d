-- The safety theorem of the board: what acceptance means for every run of its circuit. The generator is not in it.
use Rattle.std.specs.Prelude.{◌≡◌, ℕ, ◌+◌, ◌%◌, ◌≤◌, true, length}
use Rattle.std.specs.List.{AllByRecursion}
use Rattle.dvg_words.specs.Values.{Window}
use Rattle.dvg_words.specs.Memory.{Memory}
use Rattle.dvg_circuit.specs.declared.circuit.Circuit.{Circuit}
use Rattle.dvg_circuit.specs.declared.lit.LitDraw.{LitDraw}
use Rattle.dvg_circuit.specs.Circuit.{Reads, Run, run_after, begin}
use Rattle.dvg_circuit.specs.Premises.{IsStart, ReadsAs}
use Rattle.dvg_circuit.specs.Showing.{IsDrawInWindow}
use Rattle.dvg_check.specs.Safety.{IsMapped}

-- P holds of the registers at the start and of the run after each number of instructions: for all that the registers may hold then,
-- and whatever is written to memory while it runs, if each word that the run fetches is read as the frame and the ROM have it
abbrev pub OfEachRun : Memory → (Circuit → (ℕ → Run) → Type 0) → Type 0
OfEachRun m P = (c : Circuit) (reads : ℕ → Reads) → IsStart c → ReadsAs m reads (begin c) → P c (λ n. run_after reads n (begin c))

-- a stack pointer of four bits is at most so many calls past where it was
abbrev pub IsPast : ℕ → ℕ → ℕ → Type 0
IsPast before most pointer = (calls : ℕ) × (calls ≤ most) × (pointer ≡ (before + calls) % 16)

-- a run is safe so far: `pointer` is its stack pointer at the start, and each lit draw keeps P
pub record IsSafeRun (m : Memory) (P : LitDraw → Type 0) (words depth pointer : ℕ) (r : Run) : Type 0 where
  -- at most `words` words were fetched, all of them words of the frame or of the ROM
  pub few : length r.fetched ≤ words
  pub mapped : AllByRecursion (IsMapped m) r.fetched
  -- at most `depth` return places more are stored than at the start
  pub stored : IsPast pointer depth r.circuit.pointer
  pub lit : AllByRecursion P r.lit

-- Every run of the circuit halts within `words` instructions, and is safe after each.
pub record SafeRuns (m : Memory) (P : LitDraw → Type 0) (words depth : ℕ) : Type 0 where
  pub four : depth ≤ 4
  pub halts : OfEachRun m (λ c run. (n : ℕ) × (n ≤ words) × ((run n).circuit.halted ≡ true))
  pub each : OfEachRun m (λ c run. (n : ℕ) → IsSafeRun m P words depth c.pointer (run n))

-- at each count of each lit draw the counters are at a place of the window; what isn't blanked is that place itself, on the screen
abbrev pub SafeOnCircuit : Memory → Window → ℕ → ℕ → Type 0
SafeOnCircuit m w words depth = SafeRuns m (IsDrawInWindow w) words depth

-- a run that has halted after n instructions fetched exactly `words` words, and stored at most `depth` return places more than at
-- the start, and just so many at the start or after one of these instructions
pub record CountsOfRun (words depth pointer : ℕ) (run : ℕ → Run) (n : ℕ) : Type 0 where
  pub exactly : length (run n).fetched ≡ words
  pub most : (k : ℕ) → IsPast pointer depth (run k).circuit.pointer
  pub deepest : (k : ℕ) × (k ≤ n) × ((run k).circuit.pointer ≡ (pointer + depth) % 16)

-- every run of the circuit has just these counts when it has halted
abbrev pub CountsOnCircuit : Memory → ℕ → ℕ → Type 0
CountsOnCircuit m words depth =
    OfEachRun m (λ c run. (n : ℕ) → (run n).circuit.halted ≡ true → CountsOfRun words depth c.pointer run n)
