use Rattle.dvg_cmd.proofs.Common.{◌≡◌}
use Rattle.dvg_cmd.proofs.Pieces.{Skipped}
use Rattle.dvg_cmd.proofs.reading.skip.Given as goal

abbrev pub invariant-skipping : goal.invariant-skipping
invariant-skipping g l = record {
  skipped : Skipped l.most l.left (g.R.Read.remaining l.initial.reader) (g.R.Read.remaining l.reader);
  counts : g.R.CountedRead.failures l.reader ≡ g.R.CountedRead.failures l.initial.reader;
}

abbrev pub decreases-skipping : goal.decreases-skipping
decreases-skipping g l = l.left
