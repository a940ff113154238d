use Rattle.dvg_text.proofs.Common.{length, ◌-◌, ◌≡◌, ◌≤◌, ◌<◌, take, true, count_after, Appends}
use Rattle.dvg_text.proofs.writer.write_bytes.Given as goal

abbrev pub invariant-sending : goal.invariant-sending
invariant-sending g l = record {
  within : l.sent ≤ length l.bytes;
  bytes : Appends (g.W.Write.contents l.initial.out) (g.W.Write.contents l.out) (take l.sent l.bytes);
  counts : g.W.CountedWrite.failures l.out ≡ g.W.CountedWrite.failures l.initial.out;
  wholes : l.sent < length l.bytes → g.W.CountedWrite.whole_writes l.out ≡ g.W.CountedWrite.whole_writes l.initial.out;
  last : 0 < length l.bytes → l.sent ≡ length l.bytes
      → g.W.CountedWrite.whole_writes l.out ≡ count_after true (g.W.CountedWrite.whole_writes l.initial.out);
}

abbrev pub decreases-sending : goal.decreases-sending
decreases-sending g l = length l.bytes - l.sent
