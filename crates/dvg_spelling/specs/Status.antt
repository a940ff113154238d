-- How the program ends. All of it is this project's own.
use Rattle.std.specs.Prelude.{ℕ, Result, Ok, Err}
use Rattle.dvg_spelling.specs.declared.outcome.Outcome.{Outcome}
use Rattle.dvg_spelling.specs.declared.outcome.Outcome.TheVariants as outcome
use Rattle.dvg_spelling.specs.declared.fault.RunFault.{RunFault}
use Rattle.dvg_spelling.specs.declared.fault.RunFault.TheVariants.{Memory}
use Rattle.dvg_make.specs.declared.fault.MakeFault.{MakeFault}
use Rattle.dvg_make.specs.declared.fault.MakeFault.TheVariants as making
use Rattle.dvg_spelling.specs.declared.fault.MakeRunFault.{MakeRunFault}
use Rattle.dvg_spelling.specs.declared.fault.MakeRunFault.TheVariants as maker
use Rattle.dvg_make.specs.Refusals.{make_fault_of}

-- the exit status of a run that reported this, or ended with this fault
abbrev pub exit_status : Result Outcome RunFault → ℕ
exit_status (Ok outcome.Accepted) = 0
exit_status (Ok outcome.Refused) = 1
exit_status (Ok outcome.NoMemory) = 4
exit_status (Ok outcome.Unread) = 3
exit_status (Err Memory) = 4
exit_status (Err device) = 3

-- the exit status of a maker that does not make a certificate or an entry
abbrev pub making_status : MakeFault → ℕ
making_status making.Memory = 4
making_status refusal = 1

-- the exit status of a run of the maker
abbrev pub make_exit_status : Result (Unit {0}) MakeRunFault → ℕ
make_exit_status (Ok u) = 0
make_exit_status (Err maker.RomLength) = 1
make_exit_status (Err (maker.FrameLength n)) = 1
make_exit_status (Err (maker.Make f)) = making_status f
make_exit_status (Err (maker.Call call why)) = making_status (make_fault_of why)
make_exit_status (Err device) = 3
