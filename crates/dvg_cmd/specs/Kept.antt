-- Over which ROM shapes are kept from frame to frame. All of it is this project's own.
use Rattle.std.specs.Prelude.{◌≡◌, ℕ, List, length}
use Rattle.dvg_words.specs.declared.machine.Machine.{Machine}
use Rattle.dvg_words.specs.Memory.{rom_on, IsRomLength}
use Rattle.dvg_words.specs.Values.{MemoryMap, Window}
use Rattle.dvg_clocks.specs.declared.frames.Timing.{Timing}
use Rattle.dvg_kept.specs.Kept.{Kept}
use Rattle.dvg_kept.specs.Timed.{TimedKept}

-- what is kept is of the ROM of these bytes on a machine, which have the length of its map, and of this window
pub record IsKeptFor (machine : Machine) (rom : List ℕ) (map : MemoryMap) (w : Window) (kept : Kept) : Type 0 where
  pub rom_length : IsRomLength map (length rom)
  pub rom_is : kept.rom ≡ rom_on machine map rom
  pub window_is : kept.window ≡ w

-- so it is, with the states of instructions by which clocks are counted
pub record IsTimedFor
    (timing : Timing) (machine : Machine) (rom : List ℕ) (map : MemoryMap) (w : Window) (timed : TimedKept) : Type 0 where
  pub kept : IsKeptFor machine rom map w timed.kept
  pub states : timed.states ≡ timing.states
