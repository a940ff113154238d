-- In how much the fronts of two dumps differ. All of it is this project's own.
use Rattle.std.specs.Prelude.{ℕ, List}
use Rattle.dvg_dumps.specs.Front.{count}
use Rattle.dvg_dumps.specs.declared.measuring.Measure.TheVariants.{Bytes, Words, Bits}
pub use Rattle.dvg_dumps.specs.declared.differences.Differences.{Differences}

abbrev pub counted : List ℕ → List ℕ → Differences
counted good other = record { bytes = count Bytes good other; words = count Words good other; bits = count Bits good other }
