use Rattle.dvg_cmd.proofs.Common.{rules}
use Rattle.dvg_cmd.proofs.running.account_of.Goals as goal

pub returns-in_default-detail : goal.returns-in_default-detail
returns-in_default-detail c = search rules
