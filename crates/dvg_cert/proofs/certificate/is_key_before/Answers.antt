use Rattle.dvg_cert.proofs.Common.{rules}
use Rattle.dvg_cert.proofs.certificate.is_key_before.Goals as goal

pub returns-in-At-At : goal.returns-in-At-At
returns-in-At-At c = search rules
