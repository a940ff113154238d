-- The line of a touched entry. All of it is this project's own.
use Rattle.std.specs.Prelude.{ℕ, List, ◌++◌, codes}
use Rattle.dvg_survey.specs.declared.touched.TouchedEntry.{TouchedEntry}
use Rattle.dvg_spelling.specs.Report.{entry_text, hex_address}

-- the entry, and the address of a word that its shape reads and in which the ROMs differ
abbrev pub touched_line : TouchedEntry → List ℕ
touched_line t = codes "touched " ++ entry_text t.entry.addr t.entry.key ++ codes " at " ++ hex_address t.word ++ codes "\n"

-- the line of a frame with this name that reaches a touched shape
abbrev pub frame_touched_line : List ℕ → List ℕ
frame_touched_line name = name ++ codes ": touched\n"
