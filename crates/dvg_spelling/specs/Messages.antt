-- What is said on standard error, and the line of what the maker makes. All of it is this project's own.
use Rattle.std.specs.Prelude.{ℕ, List, codes, decimal, ◌++◌, Result, Ok, Err}
use Rattle.dvg_make.specs.declared.fault.MakeFault.TheVariants as making
use Rattle.dvg_spelling.specs.declared.fault.RunFault.{RunFault}
use Rattle.dvg_spelling.specs.declared.fault.RunFault.TheVariants.{ReadRom, ReadFrame, ReadRecipe, ReadCert, Write, Memory}
use Rattle.dvg_spelling.specs.declared.fault.MakeRunFault.{MakeRunFault}
use Rattle.dvg_spelling.specs.declared.fault.MakeRunFault.TheVariants as maker
use Rattle.dvg_spelling.specs.Report.{hex_address, unmade_text}
use Rattle.dvg_spelling.specs.declared.answer.ItemPlace.TheVariants.{Frame}

-- the line on standard error, without its LF
abbrev pub fault_message : RunFault → List ℕ
fault_message ReadRom = codes "dvgcheck: cannot read the ROM"
fault_message ReadFrame = codes "dvgcheck: cannot read the frame"
fault_message ReadRecipe = codes "dvgcheck: cannot read the recipe"
fault_message ReadCert = codes "dvgcheck: cannot read the certificate"
fault_message Write = codes "dvgcheck: cannot write"
fault_message Memory = codes "dvgcheck: out of memory"

-- the line on standard error of a run that made no certificate, without its LF, from behind the frame's name on where the fault is a
-- frame's
abbrev pub make_message : MakeRunFault → List ℕ
make_message maker.RomLength = codes "refused 1"
make_message (maker.FrameLength n) = codes ": refused 2"
make_message (maker.Make (making.Unstraight word)) = codes "refused 60 at " ++ hex_address word
make_message (maker.Make making.Deep) = codes "refused 61"
make_message (maker.Make making.TooLarge) = codes "refused 62"
make_message (maker.Make making.Memory) = fault_message Memory
make_message (maker.Call call why) = codes ": " ++ unmade_text why (Frame call.at)
make_message maker.ReadRom = fault_message ReadRom
make_message maker.ReadFrame = fault_message ReadFrame
make_message maker.Write = fault_message Write

-- how many entries are made, or what `make` says of why none are
abbrev pub make_answer_text : Result ℕ MakeRunFault → List ℕ
make_answer_text (Ok entries) = codes "made entries=" ++ decimal entries
make_answer_text (Err fault) = make_message fault

-- the line, from behind the name of the frame on that is to blame
abbrev pub make_line_text : Result ℕ MakeRunFault → List ℕ
make_line_text made = make_answer_text made ++ codes "\n"
