use Rattle.dvg_text.proofs.Common.{rules}
use Rattle.dvg_text.proofs.reader.CertReader.feed.Goals as goal

pub returns-in-Ok : goal.returns-in-Ok
returns-in-Ok c = search rules
