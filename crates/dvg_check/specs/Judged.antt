-- Shapes that were judged: a ROM, the entries by which all its shapes keep all rules, the window in which they light, and
-- whether the counts are bounds or exact.
use Rattle.std.specs.Prelude.{List}
use Rattle.dvg_words.specs.Memory.{Rom, IsRom}
use Rattle.dvg_words.specs.Values.{Window}
use Rattle.dvg_cert.specs.declared.entry.Entry.{Entry}
use Rattle.dvg_items.specs.Bounds.{IsSomeCertificate}
use Rattle.dvg_check.specs.Rules.{Mode, Good}

-- a ROM, a list of entries, a window and a mode
pub record Shapes : Type 0 where
  pub rom : Rom
  pub list : List Entry
  pub window : Window
  pub mode : Mode

-- the shapes are good by a certificate's entries (profile)
pub record IsJudged (shapes : Shapes) : Type 0 where
  pub rom : IsRom shapes.rom
  pub list : IsSomeCertificate shapes.list
  pub good : Good shapes.mode shapes.window shapes.rom shapes.list
