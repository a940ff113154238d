-- A worked example: a certificate that claims the lit stroke of the example ROM, and the example frame, which calls it.
use Rattle.std.specs.Prelude.{pos, List, [], ◌∷◌}
use Rattle.dvg_words.specs.declared.machine.Machine.{Machine}
use Rattle.dvg_words.specs.Values.{asteroids}
use Rattle.dvg_words.specs.Memory.{Memory, Rom, IsMemory}
use Rattle.dvg_words.specs.Example.{example_rom, example_frame}
use Rattle.dvg_words.specs.Beam.{screen}
use Rattle.dvg_cert.specs.declared.entry.Key.TheVariants.{At}
use Rattle.dvg_cert.specs.declared.entry.End.TheVariants.{Rel}
use Rattle.dvg_cert.specs.declared.entry.LitBox.TheVariants.{Span}
use Rattle.dvg_cert.specs.declared.entry.Entry.{Entry}
use Rattle.dvg_cert.specs.Order.{IsCertificate}
use Rattle.dvg_check.specs.Rules.{Bound, Exact, Good, GoodFrame}

-- what the certificate claims of that stroke at global scale 0, in units of 1/1024 of a screen place
abbrev pub example_entry : Entry
example_entry =
    record {
      addr = 0x800;
      key = At 0;
      stop = Rel (pos 1047552) (pos 785408);
      lit = Span (pos 0) (pos 1047552) (pos 0) (pos 785408);
      depth = 0;
      words = 3;
      scale = At 0;
    }

-- the entries of the certificate: this one alone
abbrev pub example_list : List Entry
example_list = example_entry ∷ []

-- the example ROM on a machine, and the frame over it
abbrev pub rom_for : Machine → Rom
rom_for machine = record example_rom { machine = machine }

-- the memory of the example on a machine
abbrev pub memory_for : Machine → Memory
memory_for machine = record { frame = example_frame; rom = rom_for machine }

-- these are a memory and a certificate for it; the shape is good in both modes, and the frame is good, with seven words and
-- one return place
pub record WorkedExample (machine : Machine) : Type 0 where
  pub memory : IsMemory (memory_for machine)
  pub certificate : IsCertificate asteroids example_list
  pub shapes : Good Bound screen (rom_for machine) example_list
  pub exact : Good Exact screen (rom_for machine) example_list
  pub frame : GoodFrame screen machine example_frame example_list 20000 7 1
