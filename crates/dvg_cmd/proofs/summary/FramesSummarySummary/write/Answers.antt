use Rattle.dvg_cmd.proofs.LineByLine.{cut_in, then}
use Rattle.dvg_cmd.proofs.summary.FramesSummarySummary.write.Goals as goal

pub returns-in_err-write_most : goal.returns-in_err-write_most
returns-in_err-write_most g c = cut_in c.in_err-write_most.ensures _ c.from_residual.ensures.0

pub returns-in_err-write_remarks : goal.returns-in_err-write_remarks
returns-in_err-write_remarks g c =
    then c.in_ok-write_most.ensures (cut_in c.in_err-write_remarks.ensures _ c.from_residual-in_err-write_remarks.ensures.0)

pub returns-in_err-write : goal.returns-in_err-write
returns-in_err-write g c =
    then c.in_ok-write_most.ensures
    (then c.in_ok-write_remarks.ensures (cut_in c.in_err-write.ensures _ c.from_residual-in_err-write.ensures.0))

pub returns : goal.returns
returns g c =
    then c.in_ok-write_most.ensures
    (then c.in_ok-write_remarks.ensures (then c.in_ok-write.ensures c.write_tally.ensures))
