use Rattle.dvg_cmd.proofs.Common.{drop, of_each}
use Rattle.dvg_text.specs.declared.fault.WriteFault.{WriteFault}
use Rattle.dvg_cmd.proofs.LineByLine.{WritesTo}
use Rattle.dvg_cmd.proofs.entry_lines.write_each.Given as goal

abbrev pub invariant-loop-thing : goal.invariant-loop-thing
invariant-loop-thing g l =
    WritesTo g.W.Write.contents g.W.CountedWrite.whole_writes g.W.CountedWrite.failures (of_each g.L.HasLine.text l.things) l.fn.out
    WriteFault (of_each g.L.HasLine.text (drop l.thing-index l.things)) l.out
