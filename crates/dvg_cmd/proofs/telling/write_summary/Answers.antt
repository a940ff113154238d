use Rattle.dvg_cmd.proofs.Common.{rules}
use Rattle.dvg_cmd.proofs.LineByLine.{then}
use Rattle.dvg_cmd.proofs.Writing.{if_shown}
use Rattle.dvg_cmd.proofs.telling.write_summary.Goals as goal

pub returns : goal.returns
returns g c = if_shown (search rules) (then c.in_ok-write_apart.ensures c.write.ensures)
