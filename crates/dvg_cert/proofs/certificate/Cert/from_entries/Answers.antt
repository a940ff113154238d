use Rattle.dvg_cert.proofs.Common.{rules}
use Rattle.dvg_cert.proofs.certificate.Cert.from_entries.Goals as goal

pub certificate_unchecked-requires : goal.certificate_unchecked-requires
certificate_unchecked-requires c = search rules
