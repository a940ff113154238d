use Rattle.dvg_recipe_cmd.proofs.Common.{◌≡◌, ◌+◌, ◌<◌, ◌≤◌, length, Consumes, IsAtEnd}
use Rattle.dvg_recipe_cmd.proofs.reading.read_text.Given as goal

abbrev pub invariant-reading : goal.invariant-reading
invariant-reading g l = record {
  consumed : Consumes (g.R.Read.remaining l.initial.reader) (g.R.Read.remaining l.reader) l.text.items;
  room : 0 < l.left → length l.text.items + l.left ≡ 823296;
  few : length l.text.items ≤ 823296;
  end : l.left ≡ 0 → length l.text.items < 823296 → IsAtEnd (g.R.Read.remaining l.reader);
  counts : g.R.CountedRead.failures l.reader ≡ g.R.CountedRead.failures l.initial.reader;
}

abbrev pub decreases-reading : goal.decreases-reading
decreases-reading g l = l.left
