use Rattle.std.proofs.Common.{rules}
use Rattle.dvg_verdict.proofs.verdict.check_exact.Goals as goal

pub returns-clause-verdict : goal.returns-clause-verdict
returns-clause-verdict c = search rules

pub returns-clause-means : goal.returns-clause-means
returns-clause-means c = search rules
