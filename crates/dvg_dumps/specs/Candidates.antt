-- The single faults that are tried. All of it is this project's own.
use Rattle.std.specs.Prelude.{ℕ, List, [], ◌∷◌, ◌++◌, map, nat_lt, if◌then◌else◌}
use Rattle.std.specs.List.{filter, flat_map}
use Rattle.dvg_dumps.specs.declared.lines.Level.TheVariants.{Low, High}
use Rattle.dvg_dumps.specs.declared.fault.LineFault.{LineFault}
use Rattle.dvg_dumps.specs.declared.fault.LineFault.TheVariants.{Stuck, Crossed}
use Rattle.dvg_dumps.specs.declared.fault.DataFault.TheVariants as seen
use Rattle.dvg_dumps.specs.declared.fault.AddressFault.TheVariants as address
use Rattle.dvg_dumps.specs.declared.fault.DumpFault.{DumpFault}
use Rattle.dvg_dumps.specs.declared.fault.DumpFault.TheVariants as fault

-- the data lines, by their weights
abbrev pub data_lines : List ℕ
data_lines = 1 ∷ 2 ∷ 4 ∷ 8 ∷ 16 ∷ 32 ∷ 64 ∷ 128 ∷ []

-- the address lines of the longest dump
abbrev pub address_lines : List ℕ
address_lines = 1 ∷ 2 ∷ 4 ∷ 8 ∷ 16 ∷ 32 ∷ 64 ∷ 128 ∷ 256 ∷ 512 ∷ 1024 ∷ 2048 ∷ []

-- those that differ among so many bytes
abbrev pub lines_below : ℕ → List ℕ
lines_below bytes = filter (λ line. nat_lt line bytes) address_lines

-- a line with a higher one
abbrev pub pair_of : ℕ → ℕ → List (ℕ × ℕ)
pair_of one other = if nat_lt one other then (one, other) ∷ [] else []

-- each line with each higher one
abbrev pub pairs : List ℕ → List (ℕ × ℕ)
pairs lines = flat_map (λ one. flat_map (pair_of one) lines) lines

-- a line is low or high
abbrev pub stuck_faults : ℕ → List LineFault
stuck_faults line = Stuck line Low ∷ Stuck line High ∷ []

-- two are exchanged
abbrev pub crossed_fault : ℕ × ℕ → LineFault
crossed_fault pair = Crossed pair.0 pair.1

-- one of these lines or two have a fault
abbrev pub line_faults : List ℕ → List LineFault
line_faults lines = flat_map stuck_faults lines ++ map crossed_fault (pairs lines)

-- the lines are data lines
abbrev pub data_fault : LineFault → DumpFault
data_fault f = fault.Data (seen.Lines f)

-- the faults of data lines, among them that all are inverted, low or high
abbrev pub data_faults : List DumpFault
data_faults =
    map data_fault (line_faults data_lines)
    ++ fault.Data seen.Inverted ∷ fault.Data (seen.Blank Low) ∷ fault.Data (seen.Blank High) ∷ []

-- they are address lines
abbrev pub address_fault : LineFault → DumpFault
address_fault f = fault.Address (address.Lines f)

-- one of these is inverted
abbrev pub inverted_fault : ℕ → DumpFault
inverted_fault line = fault.Address (address.Inverted line)

-- bytes come from one byte or one word away
abbrev pub shifts : List DumpFault
shifts =
    fault.Address (address.Later 1) ∷ fault.Address (address.Earlier 1)
    ∷ fault.Address (address.Later 2) ∷ fault.Address (address.Earlier 2) ∷ []

-- where an address line is high or low, all data lines are high or low
abbrev pub dead_parts : ℕ → List DumpFault
dead_parts line =
    fault.Dead line High High ∷ fault.Dead line High Low ∷ fault.Dead line Low High ∷ fault.Dead line Low Low ∷ []

-- the faults of these address lines, and the shifts
abbrev pub address_faults : List ℕ → List DumpFault
address_faults lines =
    map address_fault (line_faults lines) ++ map inverted_fault lines ++ shifts ++ flat_map dead_parts lines

-- all that are tried on a good dump of so many bytes
abbrev pub candidates : ℕ → List DumpFault
candidates bytes = data_faults ++ address_faults (lines_below bytes)
