use Rattle.dvg_cert.proofs.Common.{rules}
use Rattle.dvg_cert.proofs.lookup.Entries.named.Goals as goal

pub returns-in-Some : goal.returns-in-Some
returns-in-Some g c = search rules
