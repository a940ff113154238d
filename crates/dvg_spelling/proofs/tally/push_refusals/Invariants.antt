use Rattle.dvg_spelling.proofs.Common.{◌≡◌, ◌≤◌, ◌+◌, ◌*◌, ◌++◌, length, take, refused_texts}
use Rattle.dvg_spelling.proofs.tally.push_refusals.Given as goal

abbrev pub invariant-loop-number : goal.invariant-loop-number
invariant-loop-number l = record {
  text : l.line.items ≡ l.initial.line.items ++ refused_texts 0 (take l.number l.refused);
  short : length l.line.items ≤ length l.initial.line.items + l.number * 30;
}
