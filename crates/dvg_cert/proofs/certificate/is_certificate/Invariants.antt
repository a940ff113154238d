use Rattle.dvg_cert.proofs.Common.{take, IsCertificate}
use Rattle.dvg_cert.proofs.certificate.is_certificate.Given as goal

abbrev pub invariant-loop-i : goal.invariant-loop-i
invariant-loop-i l = IsCertificate l.map (take l.i l.entries)
