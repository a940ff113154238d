use Rattle.dvg_spelling.proofs.Common.{rules}
use Rattle.dvg_spelling.proofs.rules.all_rules.Goals as goal

pub loop-number-init : goal.loop-number-init
loop-number-init c = search rules

pub returns : goal.returns
returns c = search rules
