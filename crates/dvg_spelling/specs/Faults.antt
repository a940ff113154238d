-- The numbers of runs that failed. All of it is this project's own.
use Rattle.std.specs.Prelude.{ℕ, Option, None, Some}
use Rattle.dvg_make.specs.Refusals.{fault_number, make_fault_of}
use Rattle.dvg_make.specs.declared.fault.EntryFault.{EntryFault}
use Rattle.dvg_make.specs.declared.fault.FrameCall.{FrameCall}
use Rattle.dvg_spelling.specs.declared.fault.RunFault.{RunFault}
use Rattle.dvg_spelling.specs.declared.fault.RunFault.TheVariants.{ReadRom, ReadFrame, ReadRecipe, ReadCert, Write, Memory}
use Rattle.dvg_spelling.specs.declared.fault.MakeRunFault.{MakeRunFault}
use Rattle.dvg_spelling.specs.declared.fault.MakeRunFault.TheVariants as maker

-- why a run of the checker wrote no report
abbrev pub run_number : RunFault → ℕ
run_number ReadRom = 70
run_number ReadFrame = 71
run_number ReadRecipe = 71
run_number ReadCert = 72
run_number Write = 73
run_number Memory = 74

-- why a run of the maker wrote no certificate
abbrev pub make_run_number : MakeRunFault → ℕ
make_run_number maker.RomLength = 1
make_run_number (maker.FrameLength n) = 2
make_run_number (maker.Make f) = fault_number f
make_run_number (maker.Call call why) = fault_number (make_fault_of why)
make_run_number maker.ReadRom = 70
make_run_number maker.ReadFrame = 71
make_run_number maker.Write = 73

-- the frame that has the fault, counted from 0, where it is known to be one's
abbrev pub frame_blamed : MakeRunFault → Option ℕ
frame_blamed (maker.FrameLength n) = Some n
frame_blamed (maker.Call call why) = Some call.frame
frame_blamed f = None

-- the run's fault that tells why the maker did not make the entry of this call, or of a root
abbrev pub told_fault : Option FrameCall → EntryFault → MakeRunFault
told_fault None why = maker.Make (make_fault_of why)
told_fault (Some call) why = maker.Call call why
