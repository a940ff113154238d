use Rattle.dvg_text.proofs.Common.{rules}
use Rattle.dvg_text.proofs.reader.read_cert.Goals as goal

pub returns : goal.returns
returns c = search rules
