use Rattle.dvg_text.proofs.Common.{rules}
use Rattle.dvg_text.proofs.reader.CertReader.finish.Goals as goal

pub returns : goal.returns
returns c = search rules
