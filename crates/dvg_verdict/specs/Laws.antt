-- The law of the verdict on bytes, for every map, window and mode.
use Rattle.dvg_words.specs.declared.machine.Machine.{Machine}
use Rattle.std.specs.Prelude.{◌≡◌, ℕ, List, Result}
use Rattle.dvg_words.specs.Values.{Window}
use Rattle.dvg_check.specs.declared.fault.Mode.{Mode}
use Rattle.dvg_check.specs.declared.verdict.Yes.{Yes}
use Rattle.dvg_check.specs.declared.verdict.Refusal.{Refusal}
use Rattle.dvg_verdict.specs.Verdict.{VerdictOn, NotMemory}

-- there is at most one verdict, running out of memory aside
abbrev pub OneVerdict : Type 0
OneVerdict =
    (machine : Machine) (mode : Mode) (w : Window) (rom cert frame : List ℕ) (budget : ℕ) (a b : Result Yes Refusal)
    → VerdictOn machine mode w rom cert frame budget a → VerdictOn machine mode w rom cert frame budget b → NotMemory a → NotMemory b
    → a ≡ b
