-- What is kept of frames that were judged. All of it is this project's own.
use Rattle.std.specs.Prelude.{Contains, List}
use Rattle.dvg_words.specs.Memory.{Rom, IsRom}
use Rattle.dvg_words.specs.Values.{Window}
use Rattle.dvg_cert.specs.Order.{IsCertificate}
use Rattle.dvg_cert.specs.declared.entry.Entry.{Entry}
use Rattle.dvg_check.specs.Rules.{Good}
use Rattle.dvg_check.specs.declared.fault.Mode.TheVariants.{Exact}
use Rattle.dvg_make.specs.Made.{MadeEntry}

-- entries over a ROM, whose shapes light in a window
pub record Kept : Type 0 where
  pub rom : Rom
  pub window : Window
  pub list : List Entry

-- entries over a ROM are a certificate's, and each of them is made
pub record AreMade (rom : Rom) (list : List Entry) : Type 0 where
  pub certificate : IsCertificate rom.map list
  pub each : (e : Entry) → Contains list e → MadeEntry rom list e

-- so are these, and their shapes are good
pub record IsKept (k : Kept) : Type 0 where
  pub rom_is : IsRom k.rom
  pub are : AreMade k.rom k.list
  pub good : Good Exact k.window k.rom k.list
