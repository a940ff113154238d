use Rattle.dvg_text.proofs.Common.{◌≡◌, ◌≤◌, ◌+◌, ◌-◌, ◌++◌, length, take, Buffered}
use Rattle.arrayvec.specs.ArrayVec.{array_vec_len}
use Rattle.dvg_text.specs.declared.limits.TheConstants.{MOST_AT_ONCE}
use Rattle.dvg_text.proofs.lines.put.Given as goal

abbrev pub invariant-putting : goal.invariant-putting
invariant-putting g l = record {
  within : l.at ≤ length l.text;
  held : Buffered (g.W.Write.contents l.initial.out) (g.W.Write.contents l.out) l.held.items (l.initial.held.items ++ take l.at l.text);
  counts : g.W.CountedWrite.failures l.out ≡ g.W.CountedWrite.failures l.initial.out;
  fits : array_vec_len l.initial.held + length l.text ≤ MOST_AT_ONCE → (l.at ≡ 0) × (l.held.items ≡ l.initial.held.items)
      × (l.out ≡ l.initial.out);
}

abbrev pub decreases-putting : goal.decreases-putting
decreases-putting g l = (length l.text - l.at) + array_vec_len l.held
