use Rattle.std.proofs.Common.{arith, nat_lt}
use Rattle.std.proofs.lemmas.Grind.{common_steps}
use Rattle.std.proofs.lemmas.List.Elements.{filter_more}
use Rattle.dvg_dumps.specs.Candidates.{address_lines}
use Rattle.dvg_dumps.proofs.tried.lines_below.Goals as goal

pub loop-line-preserved : goal.loop-line-preserved
loop-line-preserved c =
    grind (arith, common_steps, (filter_more (λ line. nat_lt line c.args.bytes) address_lines c.loop-line.line-index 0))
