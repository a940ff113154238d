use Rattle.dvg_cmd.proofs.Common.{◌≡◌, ◌+◌, ◌-◌, ◌≤◌, ◌<◌, List, length, ℕ, Consumes, IsAtEnd, Open, taken_length}
use Rattle.dvg_cmd.proofs.reading.read_certificate.Given as goal

abbrev pub invariant-feeding : goal.invariant-feeding
invariant-feeding g l = record {
  piece : l.len ≤ 4096;
  text : (text : List ℕ) × (l.reader ≡ Open text) × Consumes (g.R.Read.remaining l.initial.source) (g.R.Read.remaining l.source) text
      × (length text ≤ 819800) × (l.len < 4096 → IsAtEnd (g.R.Read.remaining l.source));
  counts : g.R.CountedRead.failures l.source ≡ g.R.CountedRead.failures l.initial.source;
}

abbrev pub decreases-feeding : goal.decreases-feeding
decreases-feeding g l = (819800 - taken_length l.reader) + l.len
