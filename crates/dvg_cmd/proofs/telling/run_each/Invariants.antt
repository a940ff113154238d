use Rattle.dvg_cmd.proofs.Common.{◌≡◌}
use Rattle.dvg_cmd.specs.Telling.{TellsAlike}
use Rattle.dvg_cmd.proofs.ToldLines.{WritesLines}
use Rattle.dvg_cmd.proofs.telling.run_each.Given as goal

abbrev pub invariant-loop-thing : goal.invariant-loop-thing
invariant-loop-thing g l = record {
  can : (goal.iterator-loop-thing g).can_next l.thing-iterator;
  finite : (goal.iterator-loop-thing g).is_finite l.thing-iterator;
  lines : WritesLines (g.T.Tell.is_line_of l.initial.teller) (g.T.Tell.telling l.initial.teller) l.yielded (g.W.Write.contents l.initial.out)
      (g.W.Write.contents l.out) l.progress (g.W.CountedWrite.whole_writes l.initial.out) (g.W.CountedWrite.whole_writes l.out);
  count : g.W.CountedWrite.failures l.out ≡ g.W.CountedWrite.failures l.initial.out;
  valid : g.T.Tell.valid l.teller;
  alike : TellsAlike (g.T.Tell.is_line_of l.initial.teller) (g.T.Tell.is_line_of l.teller);
  telling : g.T.Tell.telling l.teller ≡ g.T.Tell.telling l.initial.teller;
}
