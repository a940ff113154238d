use Rattle.dvg_cert.proofs.OnlyEntries.{found}
use Rattle.dvg_cert.proofs.laws.only_entry.Goals as goal

pub returns : goal.returns
returns c = λ map es addr key h. found es addr key h.rising
