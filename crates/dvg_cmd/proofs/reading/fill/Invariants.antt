use Rattle.dvg_cmd.proofs.Common.{length, ◌-◌, ◌≡◌, ◌≤◌, take, Consumes}
use Rattle.dvg_cmd.proofs.reading.fill.Given as goal

abbrev pub invariant-filling : goal.invariant-filling
invariant-filling g l = record {
  within : l.filled ≤ length l.buf;
  bytes : Consumes (g.R.Read.remaining l.initial.reader) (g.R.Read.remaining l.reader) (take l.filled l.buf);
  counts : g.R.CountedRead.failures l.reader ≡ g.R.CountedRead.failures l.initial.reader;
}

abbrev pub decreases-filling : goal.decreases-filling
decreases-filling g l = length l.initial.buf - l.filled
