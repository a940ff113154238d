use Rattle.dvg_cmd.proofs.Common.{string_bytes, of_each, comparison_lines}
use Rattle.dvg_text.specs.declared.fault.WriteFault.{WriteFault}
use Rattle.dvg_cmd.proofs.LineByLine.{WritesTo}
use Rattle.dvg_cmd.proofs.ReachingLines.{lines_from}
use Rattle.dvg_cmd.proofs.comparing.write_comparison.Given as goal

abbrev pub invariant-loop-i : goal.invariant-loop-i
invariant-loop-i g l =
    WritesTo g.W.Write.contents g.W.CountedWrite.whole_writes g.W.CountedWrite.failures
    (comparison_lines (of_each (λ name. string_bytes name) l.names) l.comparison) l.fn.out WriteFault
    (lines_from l.names l.reaching l.i) l.out
