use Rattle.dvg_cert.proofs.Common.{rules}
use Rattle.dvg_cert.proofs.certificate.is_entry.Goals as goal

pub returns-then-entry-le-MOST_WORDS : goal.returns-then-entry-le-MOST_WORDS
returns-then-entry-le-MOST_WORDS c = search rules
