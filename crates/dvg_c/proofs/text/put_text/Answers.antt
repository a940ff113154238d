use Rattle.dvg_c.proofs.Common.{rules}
use Rattle.dvg_c.proofs.text.put_text.Goals as goal

pub returns-clause-put : goal.returns-clause-put
returns-clause-put c = search rules
