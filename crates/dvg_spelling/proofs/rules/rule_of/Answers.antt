use Rattle.dvg_spelling.proofs.Common.{rules}
use Rattle.dvg_spelling.proofs.rules.rule_of.Goals as goal

pub returns-clause-known : goal.returns-clause-known
returns-clause-known c = search rules
