use Rattle.dvg_check.proofs.Common.{arith, rules}
use Rattle.dvg_check.proofs.Accepting.{over_rom}
use Rattle.dvg_check.proofs.finding.judge_rom.Goals as goal

pub returns-in_default-clause-verdict : goal.returns-in_default-clause-verdict
returns-in_default-clause-verdict c = search rules

pub judge_parts-requires-clause-map : goal.judge_parts-requires-clause-map
judge_parts-requires-clause-map c = search rules

pub returns-clause-verdict : goal.returns-clause-verdict
returns-clause-verdict c = grind (arith, over_rom)

pub returns-clause-found : goal.returns-clause-found
returns-clause-found c = search rules

pub returns-clause-means : goal.returns-clause-means
returns-clause-means c = search rules
