-- The verdict on a frame by its own certificate, with the clocks that it takes. All of it is this project's own.
use Rattle.std.specs.Prelude.{Err, IfErr, IfOk, List, Ok, Result, ℕ, ◌≡◌, ◌≤◌}
use Rattle.dvg_words.specs.Memory.{Memory, Rom}
use Rattle.dvg_words.specs.Values.{Window}
use Rattle.dvg_words.specs.declared.machine.Machine.TheVariants.{Board}
use Rattle.dvg_cert.specs.declared.entry.Entry.{Entry}
use Rattle.dvg_check.specs.Means.{Means}
use Rattle.dvg_check.specs.declared.fault.Mode.TheVariants.{Exact}
use Rattle.dvg_check.specs.declared.verdict.Yes.{Yes}
use Rattle.dvg_make.specs.Frames.{FrameMade}
use Rattle.dvg_make.specs.Judging.{AreLeast, FrameRefused, HasCallCause, VerdictByMade}
use Rattle.dvg_make.specs.declared.judging.FrameRefusal.TheVariants.{NoMemory}
use Rattle.dvg_clocks.specs.Clocks.{TakenOnCircuit, clocks_of_instr}
use Rattle.dvg_clocks.specs.Forecasts.{clocks_known}
use Rattle.dvg_clocks.specs.Sums.{AreGood, IsAcceptedFrame, IsFirstOver, frame_sum}
use Rattle.dvg_clocks.specs.declared.clocks.ClockRange.{ClockRange}
use Rattle.dvg_clocks.specs.declared.clocks.States.{States}
use Rattle.dvg_clocks.specs.declared.frames.Timing.{Timing}
pub use Rattle.dvg_clocks.specs.declared.judging.TimedRefusal.{TimedRefusal}
pub use Rattle.dvg_clocks.specs.declared.judging.TimedRefusal.TheVariants.{Judged, Slow}
pub use Rattle.dvg_clocks.specs.declared.judging.TimedYes.{TimedYes}

-- the frame keeps all rules over the shapes of the list, which are good
pub record IsAccepted (m : Memory) (list : List Entry) : Type 0 where
  pub shapes : AreGood m.rom list
  pub words : ℕ
  pub frame : IsAcceptedFrame m list words

-- the clocks are the sum over the items of the frame and over the shapes that it calls, by the list that is made for it; `count` is
-- the frame's words, those of called shapes included
pub record AreClocks (t : States) (rom : Rom) (words : List ℕ) (count : ℕ) (clocks : ClockRange) : Type 0 where
  pub list : List Entry
  pub made : FrameMade rom words list
  pub sum : clocks ≡ frame_sum (clocks_known t) (record { frame = words; rom = rom }) list count

-- the frame is accepted by its own certificate, and its first item with which it may take more clocks than the limit stands here
pub record IsSlow (timing : Timing) (rom : Rom) (words : List ℕ) (w : Window) (budget at : ℕ) : Type 0 where
  pub yes : Yes
  pub verdict : VerdictByMade rom words w budget (Ok yes)
  pub list : List Entry
  pub made : FrameMade rom words list
  pub over : IsFirstOver timing.states (record { frame = words; rom = rom }) list timing.limit at

-- the verdict on a frame: that by its own certificate, and of an accepted one its clocks, or where they are over the limit
abbrev pub TimedVerdict : Timing → Rom → List ℕ → Window → ℕ → Result TimedYes TimedRefusal → Type 0
TimedVerdict timing rom words w budget (Ok timed) =
    VerdictByMade rom words w budget (Ok timed.yes) × AreClocks timing.states rom words timed.yes.words timed.clocks
    × (timed.clocks.most ≤ timing.limit)
TimedVerdict timing rom words w budget (Err (Judged r)) = VerdictByMade rom words w budget (Err r)
TimedVerdict timing rom words w budget (Err (Slow at)) = IsSlow timing rom words w budget at

-- what a refusal means beside the verdict: one by the certificate the same as without clocks, 58 nothing more
abbrev pub TimedRefused : Rom → List ℕ → Window → ℕ → TimedRefusal → Type 0
TimedRefused rom words w budget (Judged r) = FrameRefused rom words w budget r × HasCallCause rom words r
TimedRefused rom words w budget (Slow at) = Unit {0}

-- why the clocks of an accepted frame are not told: they are over the limit, or memory was out
abbrev pub IsUntold : Timing → Memory → List Entry → TimedRefusal → Type 0
IsUntold timing m list (Slow at) = IsFirstOver timing.states m list timing.limit at
IsUntold timing m list (Judged r) = r ≡ NoMemory

-- each clause of `judge_timed` holds of the answer
pub record IsTimed
    (timing : Timing) (rom : Rom) (words : List ℕ) (w : Window) (budget : ℕ) (answer : Result TimedYes TimedRefusal) : Type 0 where
  pub verdict : TimedVerdict timing rom words w budget answer
  pub means : IfOk answer (λ timed. Means Exact (record { frame = words; rom = rom }) w timed.yes.words timed.yes.depth)
  pub least : IfOk answer (λ timed. AreLeast rom words w timed.yes.words timed.yes.depth)
  pub clocks :
      rom.machine ≡ Board
      → IfOk answer (λ timed. TakenOnCircuit (clocks_of_instr timing.states) (record { frame = words; rom = rom }) timed.clocks)
  pub refused : IfErr answer (TimedRefused rom words w budget)
