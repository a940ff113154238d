-- The number of a failed write.
use Rattle.std.specs.Prelude.{ℕ}
use Rattle.dvg_text.specs.declared.fault.WriteFault.{WriteFault}
use Rattle.dvg_text.specs.declared.fault.WriteFault.TheVariants.{Device}

-- why a text was not written (profile)
abbrev pub write_number : WriteFault → ℕ
write_number Device = 17
