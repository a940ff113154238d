use Rattle.dvg_c.proofs.Common.{rules}
use Rattle.dvg_c.proofs.alone.own_certificates.Goals as goal

pub returns-clause-ok : goal.returns-clause-ok
returns-clause-ok c = search rules
