use Rattle.dvg_text.proofs.Common.{◌≡◌, take, begun_with, Buffered}
use Rattle.dvg_text.proofs.writer.write_cert.Given as goal

abbrev pub invariant-loop-i : goal.invariant-loop-i
invariant-loop-i g l =
    Buffered (g.W.Write.contents l.fn.out) (g.W.Write.contents l.out) l.text.items (begun_with l.cert.map (take l.i l.entries))
    × (g.W.CountedWrite.failures l.out ≡ g.W.CountedWrite.failures l.fn.out)
