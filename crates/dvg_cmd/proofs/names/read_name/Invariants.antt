use Rattle.dvg_cmd.proofs.Common.{◌≡◌, end_byte}
use Rattle.dvg_cmd.proofs.Naming.{NameSoFar}
use Rattle.dvg_cmd.proofs.names.read_name.Given as goal

abbrev pub invariant-loop-len : goal.invariant-loop-len
invariant-loop-len g l = record {
  far : NameSoFar (end_byte l.end) (g.R.Read.remaining l.initial.list) (g.R.Read.remaining l.list) l.len l.name.items;
  count : g.R.CountedRead.failures l.list ≡ g.R.CountedRead.failures l.initial.list;
}
