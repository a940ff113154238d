-- Kept shapes with what they take. All of it is this project's own.
use Rattle.dvg_clocks.specs.declared.clocks.States.{States}
use Rattle.dvg_kept.specs.Kept.{Kept}

-- kept shapes, and how many states each instruction has
pub record TimedKept : Type 0 where
  pub kept : Kept
  pub states : States
