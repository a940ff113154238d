use Rattle.dvg_cmd.proofs.Common.{rules, arith, of_each, string_bytes}
use Rattle.dvg_cmd.proofs.LineByLine.{all_written, cut_in, line_cut, line_written}
use Rattle.dvg_cmd.proofs.ReachingLines.{lines_from, pass_frame, next_frame, no_frame}
use Rattle.dvg_cmd.proofs.comparing.write_comparison.Goals as goal
use Rattle.dvg_cmd.proofs.comparing.write_comparison.Goals.{else-reaching-i}

pub returns-in_err-write_each : goal.returns-in_err-write_each
returns-in_err-write_each g c = cut_in (rw c.deref.ensures.value at c.in_err-write_each.ensures) _ c.from_residual.ensures.0

pub loop-i-init : goal.loop-i-init
loop-i-init g c = record { done = _; written = rw c.deref.ensures.value at c.in_ok-write_each.ensures; whole = search rules }

pub returns-in_err-write_touched : goal.returns-in_err-write_touched
returns-in_err-write_touched g c =
    line_cut c.loop-i.invariant
    (next_frame c.args.names.now c.as_slice-reaching.result.now c.loop-i.i c.min-i-end.result c.min-i-end.ensures c.loop-i-test.true
    c.if-reaching-i.true c.index-names-i.result c.index-names-i.is)
    (rw c.as_str.ensures.value at c.in_err-write_touched.ensures) c.from_residual-in_err-write_touched.ensures.0

pub loop-i-preserved : goal.loop-i-preserved
loop-i-preserved g c =
    grind (arith, of_each, string_bytes, lines_from, line_written, next_frame, else-reaching-i, pass_frame)

pub returns : goal.returns
returns g c =
    all_written c.loop-i.invariant
    (no_frame c.args.names.now c.as_slice-reaching.result.now c.loop-i.i c.min-i-end.result c.min-i-end.ensures c.loop-i-test.false)
