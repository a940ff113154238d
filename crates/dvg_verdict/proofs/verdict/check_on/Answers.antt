use Rattle.std.proofs.Common.{rules}
use Rattle.dvg_verdict.proofs.verdict.check_on.Goals as goal

pub returns-clause-means : goal.returns-clause-means
returns-clause-means c = search rules
