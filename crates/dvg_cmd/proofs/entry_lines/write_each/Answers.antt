use Rattle.dvg_cmd.proofs.LineByLine.{line_cut, line_written, next_line}
use Rattle.dvg_cmd.proofs.entry_lines.write_each.Goals as goal

pub returns-in_err-write : goal.returns-in_err-write
returns-in_err-write g c =
    line_cut c.loop-thing.invariant
    (next_line g.L.HasLine.text c.args.things.now c.loop-thing.thing-index c.thing-item.result c.thing-item.is c.loop-thing-test.true)
    c.in_err-write.ensures c.from_residual.ensures.0

pub loop-thing-preserved : goal.loop-thing-preserved
loop-thing-preserved g c =
    line_written c.loop-thing.invariant
    (next_line g.L.HasLine.text c.args.things.now c.loop-thing.thing-index c.thing-item.result c.thing-item.is c.loop-thing-test.true)
    c.in_ok-write.ensures
