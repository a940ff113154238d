-- The lines of an address or of a byte, each by its weight: 1 for A0 or D0, 2 for A1 or D1, and so on. All of it is this project's own.
use Rattle.std.specs.Prelude.{ℕ, Bool, not, ◌-◌, ◌==◌, bit_and, bit_or, bit_xor, if◌then◌else◌}
use Rattle.dvg_dumps.specs.declared.lines.Level.{Level}
use Rattle.dvg_dumps.specs.declared.lines.Level.TheVariants.{Low, High}

-- the line is high
abbrev pub is_high : ℕ → ℕ → Bool
is_high n line = not (bit_and n line == 0)

-- it has this level
abbrev pub has_level : ℕ → ℕ → Level → Bool
has_level n line Low = not (is_high n line)
has_level n line High = is_high n line

-- it always has this level
abbrev pub stuck : ℕ → ℕ → Level → ℕ
stuck n line Low = bit_and n (65535 - line)
stuck n line High = bit_or n line

-- it is inverted
abbrev pub inverted : ℕ → ℕ → ℕ
inverted n line = bit_xor n line

-- two lines are exchanged
abbrev pub crossed : ℕ → ℕ → ℕ → ℕ
crossed n one other =
    if is_high n one
    then (if is_high n other then n else inverted (inverted n one) other)
    else (if is_high n other then inverted (inverted n one) other else n)

-- all lines of a byte have this level
abbrev pub blank : Level → ℕ
blank Low = 0
blank High = 255
