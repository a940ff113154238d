-- What a yes means: all that the acceptance of a frame over a ROM says of its runs. The machine is that of the ROM.
use Rattle.std.specs.Prelude.{◌≡◌, ℕ}
use Rattle.dvg_words.specs.Values.{Window}
use Rattle.dvg_words.specs.Memory.{Memory}
use Rattle.dvg_words.specs.declared.machine.Machine.TheVariants.{Board}
use Rattle.dvg_check.specs.declared.fault.Mode.{Mode}
use Rattle.dvg_check.specs.declared.fault.Mode.TheVariants.{Exact}
use Rattle.dvg_check.specs.Safety.{Safe, CountsAtHalt}
use Rattle.dvg_check.specs.Circuit.{SafeOnCircuit, CountsOnCircuit}

-- what follows for the runs over a frame and a ROM from a yes in this mode and window, with these counts
pub record Means (mode : Mode) (m : Memory) (w : Window) (words depth : ℕ) : Type 0 where
  -- every run of the generator is safe
  pub safe : Safe m w words depth
  -- in exact mode each has just these counts at its HALT
  pub exact : mode ≡ Exact → CountsAtHalt m words depth
  -- on the board every run of its circuit is safe
  pub circuit : m.rom.machine ≡ Board → SafeOnCircuit m w words depth
  -- and in exact mode each has just these counts when it has halted
  pub circuit_exact : m.rom.machine ≡ Board → mode ≡ Exact → CountsOnCircuit m words depth
