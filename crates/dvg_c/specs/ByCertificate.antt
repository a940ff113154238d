-- What a frame comes to by a certificate, from what C passes. All of it is this project's own.
use Rattle.std.specs.Prelude.{◌≡◌, ◌≤◌, ℕ, List}
use Rattle.dvg_words.specs.Values.{Window, IsFor}
use Rattle.dvg_verdict.specs.Verdict.{VerdictOn}
use Rattle.dvg_c.specs.declared.answer.Answer.{Answer}
use Rattle.dvg_c.specs.declared.answer.TheConstants.{BAD_MACHINE, BAD_MODE, BAD_WINDOW}
use Rattle.dvg_c.specs.declared.passed.TheConstants.{BOARD, EXACT}
use Rattle.dvg_c.specs.Told.{Tells, machine_of, mode_of, numbered}

-- the answer is 82 for a number that stands for no machine, else 87 for one that stands for no mode, else 80 for no window of the
-- machine, else it tells the verdict on the bytes on that machine, in that mode
pub record TellsCheck (machine mode : ℕ) (w : Window) (rom cert frame : List ℕ) (budget : ℕ) (a : Answer) : Type 0 where
  pub no_machine : (machine ≤ BOARD → ⊥) → a ≡ numbered BAD_MACHINE
  pub no_mode : machine ≤ BOARD → (mode ≤ EXACT → ⊥) → a ≡ numbered BAD_MODE
  pub no_window : machine ≤ BOARD → mode ≤ EXACT → (IsFor (machine_of machine) w → ⊥) → a ≡ numbered BAD_WINDOW
  pub judged :
      machine ≤ BOARD → mode ≤ EXACT → IsFor (machine_of machine) w
      → Tells (VerdictOn (machine_of machine) (mode_of mode) w rom cert frame budget) a
