-- Which faults are told. All of it is this project's own.
use Rattle.std.specs.Prelude.{ℕ, List, length}
use Rattle.std.specs.List.{filter}
use Rattle.dvg_dumps.specs.Faults.{explains}
use Rattle.dvg_dumps.specs.Candidates.{candidates}
use Rattle.dvg_dumps.specs.declared.fault.DumpFault.{DumpFault}

-- just those that are tried and make the other dump of the good one
abbrev pub told : List ℕ → List ℕ → List DumpFault
told good other = filter (λ f. explains f good other) (candidates (length good))
