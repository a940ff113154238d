-- Faults of a chip, of its socket or of a reader, by which one dump is made of another. All of it is this project's own.
use Rattle.std.specs.Prelude.{ℕ, Bool, true, List, Option, None, Some, is_some, ◌+◌, ◌-◌, ◌==◌, ◌&&◌, nat_lt, if◌then◌else◌, slice_get}
use Rattle.dvg_dumps.specs.Lines.{blank, crossed, has_level, inverted, stuck}
use Rattle.dvg_dumps.specs.Front.{all_below, any_below, differs_at, front}
use Rattle.dvg_dumps.specs.declared.fault.LineFault.{LineFault}
use Rattle.dvg_dumps.specs.declared.fault.LineFault.TheVariants.{Stuck, Crossed}
use Rattle.dvg_dumps.specs.declared.fault.DataFault.{DataFault}
use Rattle.dvg_dumps.specs.declared.fault.DataFault.TheVariants as seen
use Rattle.dvg_dumps.specs.declared.fault.AddressFault.{AddressFault}
use Rattle.dvg_dumps.specs.declared.fault.AddressFault.TheVariants as address
use Rattle.dvg_dumps.specs.declared.fault.DumpFault.{DumpFault}
use Rattle.dvg_dumps.specs.declared.fault.DumpFault.TheVariants as fault

-- the byte or the address that comes of one, if its lines have this fault
abbrev pub changed : LineFault → ℕ → ℕ
changed (Stuck line level) n = stuck n line level
changed (Crossed one other) n = crossed n one other

-- what is read of a byte
abbrev pub read_as : DataFault → ℕ → ℕ
read_as (seen.Lines f) byte = changed f byte
read_as seen.Inverted byte = inverted byte 255
read_as (seen.Blank level) byte = blank level

-- the address from which is read, in place of this one; none before the first
abbrev pub source_of : AddressFault → ℕ → Option ℕ
source_of (address.Lines f) at = Some (changed f at)
source_of (address.Inverted line) at = Some (inverted at line)
source_of (address.Later bytes) at = Some (at + bytes)
source_of (address.Earlier bytes) at = if nat_lt at bytes then None else Some (at - bytes)

-- the dump's byte at an address, if there is one
abbrev pub byte_from : List ℕ → Option ℕ → Option ℕ
byte_from good None = None
byte_from good (Some at) = slice_get good at

-- what is read of a byte, if there is one
abbrev pub seen_as : DataFault → Option ℕ → Option ℕ
seen_as f None = None
seen_as f (Some byte) = Some (read_as f byte)

-- what is read at an address of the good dump; none where it would be a byte outside it
abbrev pub read_by : DumpFault → List ℕ → ℕ → Option ℕ
read_by (fault.Data f) good at = seen_as f (slice_get good at)
read_by (fault.Address f) good at = byte_from good (source_of f at)
read_by (fault.Dead line level all) good at = if has_level at line level then Some (blank all) else slice_get good at

-- a byte is what is read; nothing is asked where that is not known
abbrev pub is_read : Option ℕ → Option ℕ → Bool
is_read (Some read) (Some byte) = read == byte
is_read read byte = true

-- the other dump's byte at an address is what is read there
abbrev pub fits_at : DumpFault → List ℕ → List ℕ → ℕ → Bool
fits_at f good other at = is_read (read_by f good at) (slice_get other at)

-- the dumps differ at an address, and it is known what is read there
abbrev pub is_known_difference : DumpFault → List ℕ → List ℕ → ℕ → Bool
is_known_difference f good other at = differs_at good other at && is_some (read_by f good at)

-- the fault makes all bytes of the front, as far as it is known what is read, and one of those that differ
abbrev pub explains : DumpFault → List ℕ → List ℕ → Bool
explains f good other =
    all_below (fits_at f good other) (front good other) && any_below (is_known_difference f good other) (front good other)
