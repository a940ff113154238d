use Rattle.dvg_cmd.proofs.Common.{◌≡◌, ◌++◌, rules, arith, common_steps}
use Rattle.dvg_cmd.proofs.LineByLine.{one_line, then}
use Rattle.dvg_cmd.proofs.Writing.{if_shown}
use Rattle.dvg_cmd.proofs.progress.Progress.write_line.Goals as goal

pub returns : goal.returns
returns g c =
    let same : c.as_bytes.result.now ++ c.args.line.now ++ c.as_bytes-2.result.now ≡ c.args.name.now ++ c.args.line.now ++ c.args.text.now =
    grind (arith, common_steps) in
    let h = c.write_lines.ensures in
    if_shown (search rules)
    (then c.in_ok-write_apart.ensures
    (one_line c.write_lines.result same (grind (arith, common_steps, c.requires)) h.ok h.prefix h.one_write h.count))
