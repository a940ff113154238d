use Rattle.dvg_text.proofs.Common.{sym, arith, LINE_FEED}
use Rattle.dvg_text.proofs.Cutting.{found_in_prefix}
use Rattle.dvg_text.proofs.reader.line_end.Goals as goal

pub returns-in-Some : goal.returns-in-Some
returns-in-Some c =
    let f = found_in_prefix LINE_FEED c.args.room c.args.rest.now c.in-Some.at (omega arith) (sym c.in-Some.ensures) in
    (f.0, f.1, f.2, omega arith)
