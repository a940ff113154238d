-- The numbers of the refusals of a certificate.
use Rattle.std.specs.Prelude.{ℕ}
use Rattle.dvg_cert.specs.declared.fault.CertWhy.{CertWhy}
use Rattle.dvg_cert.specs.declared.fault.CertWhy.TheVariants.{Form, Order, Count, Unended, After, TooLong, Memory}

-- why a certificate is refused (profile)
abbrev pub cert_number : CertWhy → ℕ
cert_number Form = 10
cert_number Order = 11
cert_number Count = 12
cert_number Unended = 13
cert_number After = 14
cert_number TooLong = 15
cert_number Memory = 16
