-- The line that tells how two dumps of a ROM differ. All of it is this project's own.
use Rattle.std.specs.Prelude.{ℕ, List, ◌++◌, Option, None, Some, codes, decimal}
use Rattle.dvg_dumps.specs.declared.differences.Differences.{Differences}

-- in how many bytes, words and bits they do, or that they are equal
abbrev pub dump_line : Option Differences → List ℕ
dump_line None = codes "equal\n"
dump_line (Some d) =
    codes "differ bytes=" ++ decimal d.bytes ++ codes " words=" ++ decimal d.words ++ codes " bits=" ++ decimal d.bits ++ codes "\n"
